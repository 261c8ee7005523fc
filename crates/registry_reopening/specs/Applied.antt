-- What the next opening of a store finds after request lines were acted on.
use Rattle.std.specs.Prelude.{◌≡◌, ◌⊎◌, ◌<◌, ◌≤◌, ◌+◌, ℕ, List, length, take, drop, Option, Result, Ok, Err}
use Rattle.std.specs.Io.KnownBytes.{Appends, Keeps}
use Rattle.sqlite.specs.Store.{Ghosts}
use Rattle.sqlite.specs.State.{HasCleanDisk}
use Rattle.byte_streams.specs.declared.streams.Sink as sink
use Rattle.byte_streams.specs.Streams.{AppendsPrefix}
use Rattle.registry_rules.specs.declared.order.Request.{Request}
use Rattle.registry_rules.specs.History.{History}
use Rattle.registry_rules.specs.Run.{Legal, after}
use Rattle.registry_store.specs.declared.registry.Registry.{Registry}
use Rattle.registry_store.specs.Promise.{Represents, state_of}
use Rattle.registry_store.specs.Run.{HasAnswered, HasAnsweredNone}
use Rattle.registry_commands.specs.declared.lines.BadLine.{BadLine}
use Rattle.registry_commands.specs.declared.status.ExitStatus.{ExitStatus}
use Rattle.registry_commands.specs.declared.status.ExitStatus.TheVariants.{Success, Failed}
use Rattle.registry_commands.specs.Ends.{Ends, ReceivesNothing, Output, effect, output_of}
use Rattle.registry_commands.specs.Failures.{IsOfInput, IsOfStore, IsTooLong, PrintsFailure, TellsFailedReads}
use Rattle.registry_commands.specs.Apply.{IsApplied, IsUnread, lines_between}
use Rattle.registry_commands.specs.Lines.{requests_in}

-- Closing a store leaves the status and the error output as they were; or, if the status was Success, it is said to fail, and the
-- error output names the store or memory.
abbrev pub EndsClosing : {E : Type 0} → sink.Ghosts E → ExitStatus → E → E → ExitStatus → Type 0
EndsClosing s acted errors errors_new status =
    ((status ≡ acted) × (errors_new ≡ errors)) ⊎ ((acted ≡ Success) × (status ≡ Failed) × PrintsFailure IsOfStore (output_of s errors errors_new))

module _ {S : Type 0} {g : Ghosts S} where
  -- The requests of these bytes were acted on over the first registry as `apply_lines` says, and it ended so. The last registry is
  -- one of which that is true; nobody sees whether it is the one that was let go. The reads of the input had failed so often before,
  -- and so often after that.
  pub record IsAppliedOver (failures failures_new : ℕ) (bytes : List ℕ) (first : Registry S g) (a : ℕ) (ends : Ends) : Type 0 where
    pub last : Registry S g
    pub applied : IsApplied (IsOfInput failures failures_new bytes) (effect first last ends) (requests_in bytes) a
    pub long : IsTooLong bytes → (ends.status ≡ Failed) × IsUnread (IsOfInput failures failures_new bytes) (effect first last ends)
    pub tells : TellsFailedReads (ends.status ≡ Failed) ends.errors failures failures_new bytes

  -- Nothing was acted on and no reply was written: the opened registry represents the history that the first one did.
  abbrev pub IsReopenedAsBefore : Registry S g → Registry S g → Output → Type 0
  IsReopenedAsBefore first it out = ReceivesNothing out × ((h : History) → Represents first h → HasCleanDisk (state_of it) → ∥ Represents it h ∥₁)

  -- The reply lines of the requests up to the n-th are written; at the status Success these are all requests. The opened
  -- registry has acted on these n requests, and on at most one more: on that one if anything of its line is written. With n of 0 it
  -- also holds where the input was not read to its end.
  pub record IsReopenedAfter (it : Registry S g) (h : History) (rs : List Request) (ends : Ends) : Type 0 where
    pub n : ℕ
    pub within : n ≤ length rs
    pub whole : ends.status ≡ Success → n ≡ length rs
    pub gained : (middle : Option (List ℕ)) × Appends ends.out.old.contents middle (lines_between h rs 0 n) × AppendsPrefix middle ends.out.new.contents (lines_between h rs n (n + 1))
        × (Keeps middle ends.out.new.contents ⊎ ∥ Represents it (after h (take (n + 1) rs)) ∥₁)
    pub answered : ∥ HasAnswered it h rs n ∥₁

  -- The registry that is opened after the first one. Ok: these requests were read, and those after the first a acted on. Err:
  -- this was the first line that is not a request.
  abbrev pub IsReopenedAfterLines : Registry S g → Result (List Request) BadLine → ℕ → Ends → Registry S g → Type 0
  IsReopenedAfterLines first (Err bad) a ends it = IsReopenedAsBefore first it ends.out
  IsReopenedAfterLines first (Ok rs) a ends it =
      (length rs < a → IsReopenedAsBefore first it ends.out)
      × (a ≤ length rs → (h : History) → Legal h → HasAnsweredNone first h (drop a rs) → HasCleanDisk (state_of it) → IsReopenedAfter it h (drop a rs) ends)
