-- Runs that write their replies as lines.
use Rattle.std.proofs.Common.{◌≡◌, ◌⊎◌, inl, inr, ℕ, true, ◌+◌, List, take, [], ◌∷◌, Option, refl, sym, ap, subst, ◌∙◌, arith}
use Rattle.std.specs.Prelude.{◌≢◌}
use Rattle.std.proofs.lemmas.List.{append-nil}
use Rattle.std.specs.Io.KnownBytes.{Appends, Keeps}
use Rattle.sqlite.specs.Store.{Ghosts}
use Rattle.byte_streams.specs.Streams.{AppendsPrefix}
use Rattle.byte_streams.proofs.StreamLemmas.{appends_nil, appends_then}
use Rattle.registry_rules.specs.declared.order.Request.{Request}
use Rattle.registry_rules.specs.declared.verdict.Reply.{Reply}
use Rattle.registry_rules.specs.History.{History}
use Rattle.registry_rules.specs.Run.{after}
use Rattle.registry_store.specs.declared.registry.Registry.{Registry}
use Rattle.registry_store.specs.declared.replies.RunStop.{RunStop}
use Rattle.registry_store.specs.declared.replies.RunStop.TheVariants as stop
use Rattle.registry_store.specs.Promise.{Represents, is_poisoned}
use Rattle.registry_store.specs.RunTo.{HaveTaken, IsCutBy, IsHalted, IsLeftAt}
use Rattle.registry_commands.specs.declared.messages.Failure.{Failure}
use Rattle.registry_commands.specs.declared.messages.Failure.TheVariants.{File}
use Rattle.registry_commands.specs.declared.replies.ReplyLines.{ReplyLines}
use Rattle.registry_commands.specs.Messages.{reply_line, reply_lines}
use Rattle.registry_commands.specs.Apply.{IsStoppedAt, lines_between}
use Rattle.registry_commands.specs.Ends.{Output}
use Rattle.registry_commands.specs.Replies.{CutsLine, TakesLine}
use Rattle.registry_commands.proofs.ApplyLemmas.{keeps_same, prefix_of_any}

module _ {S : Type 0} {g : Ghosts S} (it : Registry S g) (h : History) where
  poisoned_or_there : (why : RunStop Failure) → IsLeftAt why it h → (is_poisoned it ≡ true) ⊎ Represents it h
  poisoned_or_there (stop.Fault fault) poisoned = inl poisoned
  poisoned_or_there (stop.Cut failure) stands = inr stands

module _ {W : Type 0} (contents : W → Option (List ℕ)) (failures : W → ℕ) where
  -- the lines of all these replies are written
  pub record AreOut (old new : ReplyLines W) (replies : List Reply) : Type 0 where
    pub same_output : new.output.ghost_name ≡ old.output.ghost_name
    pub gained : Appends (contents old.output.now) (contents new.output.now) (reply_lines replies)
    pub kept : failures new.output.now ≡ failures old.output.now

  pub taken_lines : (old new : ReplyLines W) (replies : List Reply) → HaveTaken (TakesLine contents failures) old new replies → AreOut old new replies
  taken_lines old new [] same =
      subst (λ (k : ReplyLines W). AreOut old k []) (sym same) (record { same_output = refl; gained = appends_nil (contents old.output.now); kept = refl })
  taken_lines old new (reply ∷ replies) taken =
      let rest = taken_lines taken.0 new replies taken.2 in
      record {
        same_output = rest.same_output ∙ taken.1.same_output;
        gained = appends_then (contents old.output.now) (contents taken.0.output.now) (contents new.output.now) (reply_line reply) (reply_lines replies) taken.1.gained rest.gained;
        kept = rest.kept ∙ taken.1.kept;
      }

  -- nothing was written after these replies
  pub no_more : (old middle new : ReplyLines W) (replies : List Reply) → HaveTaken (TakesLine contents failures) old middle replies → new ≡ middle → AreOut old new replies
  no_more old middle new replies taken same = subst (λ (k : ReplyLines W). AreOut old k replies) (sym same) (taken_lines old middle replies taken)

  -- a line is cut only if the output failed
  pub none_cut : (old middle new : ReplyLines W) (replies : List Reply) (reply : Reply) (failure : Failure) → HaveTaken (TakesLine contents failures) old middle replies
      → CutsLine contents failures middle new reply failure → failure ≢ File → Appends (contents old.output.now) (contents new.output.now) (reply_lines replies)
  none_cut old middle new replies reply failure taken cut other = elim cut.kind [
    | inl memory ↦ subst (λ (text : Option (List ℕ)). Appends (contents old.output.now) text (reply_lines replies)) (sym (cut.silent memory)) (taken_lines old middle replies taken).gained
    | inr file ↦ absurd (other file)
  ]

  -- at most a prefix of the next line is written
  next_begun : (why : RunStop Failure) (middle new : ReplyLines W) (next : Reply) → IsCutBy (CutsLine contents failures) why middle new next
      → AppendsPrefix (contents middle.output.now) (contents new.output.now) (reply_line next)
  next_begun (stop.Fault fault) middle new next cut =
      subst (λ (k : ReplyLines W). AppendsPrefix (contents middle.output.now) (contents k.output.now) (reply_line next)) (sym cut.0)
      (prefix_of_any (contents middle.output.now) (reply_line next))
  next_begun (stop.Cut failure) middle new next cut = cut.gained

  -- nothing of it is written, or its request was acted on
  next_acted : {S : Type 0} {g : Ghosts S} (it : Registry S g) (h : History) (why : RunStop Failure) (middle new : ReplyLines W) (next : Reply) → IsCutBy (CutsLine contents failures) why middle new next
      → IsLeftAt why it h → Keeps (contents middle.output.now) (contents new.output.now) ⊎ Represents it h
  next_acted it h (stop.Fault fault) middle new next cut poisoned =
      inl (subst (λ (k : ReplyLines W). Keeps (contents middle.output.now) (contents k.output.now)) (sym cut.0) (keeps_same (contents middle.output.now)))
  next_acted it h (stop.Cut failure) middle new next cut stands = inr stands

  -- what the output took between two states
  abbrev pub output_between : ReplyLines W → ReplyLines W → Output
  output_between old new = record {
    old = record { contents = contents old.output.now; failures = failures old.output.now };
    new = record { contents = contents new.output.now; failures = failures new.output.now };
  }

  pub stopped_lines : {S : Type 0} {g : Ghosts S} (it : Registry S g) (h : History) (rs : List Request) (n : ℕ) (old new : ReplyLines W) (why : RunStop Failure)
      → IsHalted (TakesLine contents failures) (CutsLine contents failures) it h rs n old new why → IsStoppedAt it h rs (output_between old new)
  stopped_lines it h rs n old new why halted =
      let middle = halted.middle in
      let one : lines_between h rs n (n + 1) ≡ reply_line halted.reply.0 = ap reply_lines halted.reply.1 ∙ append-nil (reply_line halted.reply.0) in
      record {
        n = n;
        within = omega (arith, halted.within);
        gained = (
          contents middle.output.now,
          (taken_lines old middle _ halted.taken).gained,
          subst (λ (text : List ℕ). AppendsPrefix (contents middle.output.now) (contents new.output.now) text) (sym one) (next_begun why middle new halted.reply.0 halted.reply.2),
          next_acted it (after h (take (n + 1) rs)) why middle new halted.reply.0 halted.reply.2 halted.ends,
        );
        leaves = halted.leaves;
        ends = elim (poisoned_or_there it (after h (take (n + 1) rs)) why halted.ends) [ inl poisoned ↦ inl poisoned | inr stands ↦ inr (inr (halted.within, stands)) ];
      }
