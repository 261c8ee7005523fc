-- What is opened after request lines were acted on.
use Rattle.std.proofs.Common.{◌≡◌, inl, inr, ℕ, ◌+◌, List, length, take, drop, refl, sym, ap, subst, ◌∙◌, arith}
use Rattle.std.specs.Prelude.{Result, Ok, Err, IfOk, IfErr, MatchResult}
use Rattle.std.proofs.Math.Logic.{∥∥₁_map}
use Rattle.std.proofs.lemmas.List.{take_all}
use Rattle.std.specs.Io.KnownBytes.{Appends}
use Rattle.sqlite.specs.Store.{Ghosts}
use Rattle.sqlite.specs.State.{HasCleanDisk}
use Rattle.registry_rules.specs.declared.order.Request.{Request}
use Rattle.registry_rules.specs.History.{History}
use Rattle.registry_rules.specs.Run.{Legal, after}
use Rattle.registry_rules.proofs.RunLemmas.{legal_after}
use Rattle.registry_tables.specs.Rows.{newest}
use Rattle.registry_store.specs.declared.registry.Registry.{Registry}
use Rattle.registry_store.specs.Promise.{IsNew, Leaves, Represents, state_of}
use Rattle.registry_store.specs.Files.{IsEither}
use Rattle.registry_store.specs.Run.{HasAnswered, HasAnsweredNone, IsAfterOrNext}
use Rattle.registry_store.proofs.RunLemmas.{leaves_weaker}
use Rattle.registry_store.proofs.RunToLemmas.{at_place, between_all}
use Rattle.registry_commands.specs.declared.lines.BadLine.{BadLine}
use Rattle.registry_commands.specs.declared.messages.Failure.{Failure}
use Rattle.registry_commands.specs.Ends.{Ends, Output, effect}
use Rattle.registry_commands.specs.Messages.{reply_lines}
use Rattle.registry_commands.specs.Apply.{IsApplied, IsRun, lines_between}
use Rattle.registry_reopening.specs.Applied.{IsReopenedAfter, IsReopenedAfterLines}
use Rattle.registry_reopening.specs.Opening.{ComesAfter}
use Rattle.registry_commands.proofs.ApplyLemmas.{applied_endures, keeps_same, prefix_of_any}

module _ {S : Type 0} {g : Ghosts S} where
  -- the opened registry represents one of the histories that the last one left
  abbrev pub Opens : Registry S g → Registry S g → Type 0
  Opens last it = (h next : History) → Legal h → Legal next → (HasCleanDisk (state_of last) → Leaves newest (state_of last) (IsEither h next))
      → HasCleanDisk (state_of it) → ∥ ((x : History) × IsEither h next x × Represents it x) ∥₁

  module _ (first last it : Registry S g) (opens : Opens last it) (before : HasCleanDisk (state_of it) → HasCleanDisk (state_of last)) where
    -- the opened registry represents the history that the last one did
    stays : (h : History) → Represents last h → HasCleanDisk (state_of it) → ∥ Represents it h ∥₁
    stays h stands clean =
        let legal = stands.legal_with.legal in
        ∥∥₁_map (opens h h legal legal (λ was. leaves_weaker newest (state_of last) (λ x. x ≡ h) (IsEither h h) (λ x e. inl e) (stands.at.left was)) clean)
        (λ found. subst (Represents it) (elim found.1 [ inl e ↦ e | inr e ↦ e ]) found.2)

    -- nothing was acted on
    as_before : last ≡ first → (h : History) → Represents first h → HasCleanDisk (state_of it) → ∥ Represents it h ∥₁
    as_before same h stands = stays h (subst (λ (x : Registry S g). Represents x h) (sym same) stands)

    placed : (h : History) (rs : List Request) (n : ℕ) → Legal h → Leaves newest (state_of last) (IsAfterOrNext h rs n) → HasCleanDisk (state_of it) → ∥ HasAnswered it h rs n ∥₁
    placed h rs n legal leaves clean =
        ∥∥₁_map (opens (after h (take n rs)) (after h (take (n + 1) rs)) (legal_after h (take n rs) legal) (legal_after h (take (n + 1) rs) legal) (λ _. leaves) clean)
        (λ found. at_place it h rs n found.0 found.1 found.2)

    -- closing the store may print more
    module _ (OfInput : Failure → Type 0) (ends : Ends) (errors : Output) where
      ran : (rs : List Request) → IsRun OfInput (effect first last ends) rs
          → (h : History) → Legal h → HasAnsweredNone first h rs → HasCleanDisk (state_of it) → IsReopenedAfter it h rs (record ends { errors = errors })
      ran rs run h legal at clean = elim run.statuses [
        | inl success ↦
            let through = run.through success h at (before clean) in
            let n = length rs in
            let all : after h rs ≡ after h (take n rs) = ap (after h) (sym (take_all n rs (omega arith))) in
            let leaves : Leaves newest (state_of last) (IsAfterOrNext h rs n) =
            leaves_weaker newest (state_of last) (λ x. x ≡ after h rs) (IsAfterOrNext h rs n) (λ x e. inl (e ∙ all)) (through.represents.at.left (before clean)) in
            record {
              n = n;
              within = omega arith;
              whole = λ _. refl;
              gained = (
                ends.out.new.contents,
                subst (λ (text : List ℕ). Appends ends.out.old.contents ends.out.new.contents text) (sym (ap reply_lines (between_all h rs 0 n refl))) through.gained.0,
                prefix_of_any ends.out.new.contents (lines_between h rs n (n + 1)),
                inl (keeps_same ends.out.new.contents),
              );
              answered = placed h rs n legal leaves clean;
            }
        | inr failed ↦
            let stopped = run.stopped failed h at (before clean) in
            let gained = stopped.gained in
            record {
              n = stopped.n;
              within = stopped.within;
              whole = λ success. absurd (cc (failed, success));
              gained = (
                gained.0,
                gained.1,
                gained.2,
                elim gained.3 [ inl kept ↦ inl kept | inr stands ↦ inr (stays (after h (take (stopped.n + 1) rs)) stands clean) ],
              );
              answered = placed h rs stopped.n legal stopped.leaves clean;
            }
      ]

      reopened : (read : Result (List Request) BadLine) (a : ℕ) → IsApplied OfInput (effect first last ends) read a → IsReopenedAfterLines first read a (record ends { errors = errors }) it
      reopened (Err bad) a is = (is.silent, as_before is.same)
      reopened (Ok rs) a is = (λ more. let rejected = is.0 more in (rejected.silent, as_before rejected.same), λ within. ran (drop a rs) (is.1 within))

  abbrev pub MayOpen : {E : Type 0} → Registry S g → Result (Registry S g) E → Type 0
  MayOpen last opened = (h next : History) → Legal h → Legal next → (HasCleanDisk (state_of last) → Leaves newest (state_of last) (IsEither h next))
      → IfOk opened (λ it. HasCleanDisk (state_of it) → ∥ ((x : History) × IsEither h next x × Represents it x) ∥₁)

  abbrev pub MayLeave : {E : Type 0} → (History → History → E → Type 0) → Registry S g → Result (Registry S g) E → Type 0
  MayLeave Left last opened = (h next : History) → Legal h → Legal next → (HasCleanDisk (state_of last) → Leaves newest (state_of last) (IsEither h next)) → IfErr opened (Left h next)

  -- the same if a registry is opened; otherwise what is left is what the last registry left
  pub if_reopened : {E : Type 0} (OfInput : Failure → Type 0) (first last : Registry S g) (read : Result (List Request) BadLine) (a : ℕ) (ends : Ends) (errors : Output) → IsApplied OfInput (effect first last ends) read a
      → (Left : History → History → E → Type 0) (opened : Result (Registry S g) E) → MayOpen last opened → IfOk opened (λ it. HasCleanDisk (state_of it) → HasCleanDisk (state_of last)) → IfOk opened IsNew → MayLeave Left last opened
      → MatchResult opened (λ it. IsReopenedAfterLines first read a (record ends { errors = errors }) it × ComesAfter first it)
      (λ e. (h next : History) → Legal h → Legal next → (HasCleanDisk (state_of last) → Leaves newest (state_of last) (IsEither h next)) → Left h next e)
  if_reopened OfInput first last read a ends errors is Left (Err e) opens before new leaves = leaves
  if_reopened OfInput first last read a ends errors is Left (Ok it) opens before new leaves = (
    reopened first last it opens before OfInput ends errors read a is,
    (new, λ clean. let was : HasCleanDisk (state_of last) = before clean in omega (arith, was, (applied_endures OfInput (effect first last ends) read a is).clean)),
  )
