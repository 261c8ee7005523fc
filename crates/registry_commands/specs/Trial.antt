-- The registry of a trial, and what a trial writes.
use Rattle.std.specs.Prelude.{◌≡◌, ◌⊎◌, ℕ, ◌&&◌, ◌+◌, ◌≤◌, length, nat_le, List, [], ◌∷◌, codes, Option, Result, Ok, Err}
use Rattle.std.specs.Io.KnownBytes.{Appends}
use Rattle.usbnum_core.specs.Spans.{spans_have}
use Rattle.byte_streams.specs.Streams.{AppendsPrefix}
use Rattle.registry_rules.specs.Texts.{AreSorted}
use Rattle.registry_rules.specs.declared.founding.Founding.{Founding}
use Rattle.registry_rules.specs.declared.order.Request.{Request}
use Rattle.registry_rules.specs.History.{founded}
use Rattle.registry_rules.specs.Run.{replies_to}
use Rattle.registry_commands.specs.declared.lines.BadLine.{BadLine}
use Rattle.registry_commands.specs.declared.messages.Failure.{Failure}
use Rattle.registry_commands.specs.declared.messages.Failure.TheVariants.{Store}
use Rattle.registry_commands.specs.declared.status.ExitStatus.TheVariants.{Success, Failed, Rejected}
use Rattle.registry_commands.specs.Ends.{Ends, Receives, ReceivesNothing, Output}
use Rattle.registry_commands.specs.Failures.{IsOfSoundRun, Prints, PrintsFailure, PrintsNothing}
use Rattle.registry_commands.specs.Messages.{bad_line_text, reply_lines}
use Rattle.registry_commands.specs.Apply.{IsOfReplies, lines_between}

-- vendor 1209, `Shared products`, with the curator `cora`, two licences and the fixed numbers 0001 to 0010
pub record IsTrial (founding : Founding) : Type 0 where
  pub vendor : founding.vendor ≡ 4617
  pub name : founding.name ≡ codes "Shared products"
  pub curators : AreSorted (codes "cora" ∷ []) founding.curators
  pub licences : AreSorted (codes "MIT" ∷ codes "GPL-3.0-only" ∷ []) founding.licences
  pub fixed : (n : ℕ) → spans_have founding.fixed n ≡ (nat_le 1 n && nat_le n 16)

-- all requests were acted on after such a founding, and all reply lines are written
pub record IsTried (rs : List Request) (out : Output) : Type 0 where
  pub founding : Founding
  pub trial : IsTrial founding
  pub gained : Receives out (reply_lines (replies_to (founded founding) rs))

-- a failure before any line was acted on: of the store, at the founding, or of the input
abbrev pub IsOfStart : (Failure → Type 0) → Failure → Type 0
IsOfStart OfInput failure = (failure ≡ Store) ⊎ OfInput failure

-- The first n requests were acted on after such a founding. Their reply lines are written, and at most a prefix of the next.
pub record IsTriedInPart (rs : List Request) (out : Output) : Type 0 where
  pub founding : Founding
  pub trial : IsTrial founding
  pub n : ℕ
  pub within : n ≤ length rs
  pub middle : Option (List ℕ)
  pub whole : Appends out.old.contents middle (lines_between (founded founding) rs 0 n)
  pub cut : AppendsPrefix middle out.new.contents (lines_between (founded founding) rs n (n + 1))

-- What a trial writes, and its exit status. Its registry is sound, so no failure is Foreign, Taken or Poisoned.
abbrev pub IsTrialOf : (Failure → Type 0) → Result (List Request) BadLine → Ends → Type 0
IsTrialOf OfInput (Err bad) ends =
    ReceivesNothing ends.out × (((ends.status ≡ Rejected) × Prints ends.errors (bad_line_text bad)) ⊎ ((ends.status ≡ Failed) × PrintsFailure (IsOfStart OfInput) ends.errors))
IsTrialOf OfInput (Ok rs) ends =
    ((ends.status ≡ Success) × IsTried rs ends.out × PrintsNothing ends.errors)
    ⊎ ((ends.status ≡ Failed) × ReceivesNothing ends.out × PrintsFailure (IsOfStart OfInput) ends.errors)
    ⊎ ((ends.status ≡ Failed) × IsTriedInPart rs ends.out × PrintsFailure (λ failure. IsOfSoundRun failure × IsOfReplies ends.out failure) ends.errors)
