-- What is written, and what the registry represents, after request lines were acted on.
use Rattle.std.specs.Prelude.{◌≡◌, ◌≢◌, ◌⊎◌, ◌<◌, ◌≤◌, ◌+◌, ℕ, true, false, All, List, length, take, drop, Option, Some, None, Result, Ok, Err}
use Rattle.std.specs.Io.KnownBytes.{Appends, Keeps}
use Rattle.sqlite.specs.Store.{Ghosts}
use Rattle.sqlite.specs.State.{HasCleanDisk}
use Rattle.byte_streams.specs.Streams.{AppendsPrefix}
use Rattle.registry_rules.specs.declared.order.Request.{Request}
use Rattle.registry_rules.specs.declared.verdict.Reply.{Reply}
use Rattle.registry_rules.specs.History.{History}
use Rattle.registry_rules.specs.Run.{after, replies_to}
use Rattle.table_laws.specs.Inside.{CommitsNothing}
use Rattle.registry_tables.specs.Rows.{newest}
use Rattle.registry_store.specs.declared.fault.Fault.TheVariants as faults
use Rattle.registry_store.specs.declared.registry.Registry.{Registry}
use Rattle.registry_store.specs.Attempt.{AddsNoDeed}
use Rattle.registry_store.specs.Promise.{Endures, Leaves, NotesForeign, Represents, is_poisoned, poisoned_by, state_of}
use Rattle.registry_store.specs.Run.{HasAnswered, HasAnsweredNone, IsAfterOrNext}
use Rattle.registry_commands.specs.declared.lines.BadLine.{BadLine}
use Rattle.registry_commands.specs.declared.messages.Failure.{Failure}
use Rattle.registry_commands.specs.declared.messages.Failure.TheVariants.{File, Foreign, Memory, Poisoned, Store, Taken}
use Rattle.registry_commands.specs.declared.status.ExitStatus.TheVariants.{Success, Failed, Rejected}
use Rattle.registry_commands.specs.Ends.{Effect, Receives, ReceivesNothing, Output}
use Rattle.registry_commands.specs.Failures.{IsOfOutput, Prints, PrintsFailure, PrintsNothing}
use Rattle.registry_commands.specs.Messages.{bad_line_text, exceeds_text, reply_lines}
use Rattle.registry_commands.specs.Shown.{HidesNoForeign}

-- the reply lines of the requests after the first a, up to the n-th
abbrev pub lines_between : History → List Request → ℕ → ℕ → List ℕ
lines_between h rs a n = reply_lines (drop a (replies_to h (take n rs)))

-- What a failure of a run says of the output. File: one write failed. Any other: none did, and the lines of some replies were
-- written whole; whose they are is not said.
abbrev pub IsOfReplies : Output → Failure → Type 0
IsOfReplies out failure =
    IsOfOutput out.old.failures out.new.failures failure × (failure ≢ File → (replies : List Reply) × Appends out.old.contents out.new.contents (reply_lines replies))

module _ {S : Type 0} {g : Ghosts S} where
  -- The failures of a run over this registry. Store, Memory and Foreign: the registry had this fault, and is poisoned by it.
  -- Memory also: memory ran out for a reply line, and the registry is not poisoned. Foreign: it represented none of these
  -- histories, or the disk is not clean. Poisoned: it was poisoned before. Never Taken. A file fails only if the output did. At
  -- Store, Memory and File no call found the rows of no history, if none had before.
  abbrev pub IsOfRun : Registry S g → Registry S g → (History → Type 0) → Failure → Type 0
  IsOfRun it new These Store = (poisoned_by new ≡ Some faults.Store) × NotesForeign it new None
  IsOfRun it new These Memory = ((poisoned_by new ≡ Some faults.NoMemory) ⊎ (is_poisoned new ≡ false)) × NotesForeign it new None
  IsOfRun it new These Foreign = (poisoned_by new ≡ Some faults.Foreign) × ¬ ((h : History) × These h × HasCleanDisk (state_of new))
  IsOfRun it new These Poisoned = is_poisoned it ≡ true
  IsOfRun it new These Taken = ⊥
  IsOfRun it new These File = (is_poisoned new ≡ false) × NotesForeign it new None

  -- All requests are answered: their reply lines are written, and the registry represents the history after them.
  pub record IsThrough (it : Registry S g) (h : History) (rs : List Request) (out : Output) : Type 0 where
    pub gained : Receives out (reply_lines (replies_to h rs))
    pub represents : Represents it (after h rs)

  -- The run stopped with n requests answered, whose reply lines are written. Of the next line either nothing is written, or
  -- a prefix is and the registry represents the history after its request. A crash leaves these n requests, and at most one
  -- more.
  pub record IsStoppedAt (it : Registry S g) (h : History) (rs : List Request) (out : Output) : Type 0 where
    pub n : ℕ
    pub within : n ≤ length rs
    pub gained : (middle : Option (List ℕ)) × Appends out.old.contents middle (lines_between h rs 0 n) × AppendsPrefix middle out.new.contents (lines_between h rs n (n + 1))
        × (Keeps middle out.new.contents ⊎ Represents it (after h (take (n + 1) rs)))
    pub leaves : Leaves newest (state_of it) (IsAfterOrNext h rs n)
    pub ends : (is_poisoned it ≡ true) ⊎ HasAnswered it h rs n

  -- Nothing was acted on and no reply was written. The error output says why, or that the input failed or memory ran out.
  pub record IsRejected (OfInput : Failure → Type 0) (did : Effect S g) (text : List ℕ) : Type 0 where
    pub same : did.new ≡ did.old
    pub silent : ReceivesNothing did.ends.out
    pub told : ((did.ends.status ≡ Rejected) × Prints did.ends.errors text) ⊎ ((did.ends.status ≡ Failed) × PrintsFailure OfInput did.ends.errors)

  -- The input failed, or memory ran out. Nothing was acted on and no reply was written.
  pub record IsUnread (OfInput : Failure → Type 0) (did : Effect S g) : Type 0 where
    pub same : did.new ≡ did.old
    pub silent : ReceivesNothing did.ends.out
    pub told : PrintsFailure OfInput did.ends.errors

  -- The requests were acted on in turn: all of them, or up to a failure. The first one may have been acted on before. After all
  -- of them the registry is not poisoned, whatever its store holds. Repeats and refused requests commit nothing. A poisoned registry
  -- acts on none, no reply is written, and the error output says that it is poisoned, or that the input failed or memory ran out.
  pub record IsRun (OfInput : Failure → Type 0) (did : Effect S g) (rs : List Request) : Type 0 where
    pub statuses : (did.ends.status ≡ Success) ⊎ (did.ends.status ≡ Failed)
    pub through : did.ends.status ≡ Success → (h : History) → HasAnsweredNone did.old h rs → HasCleanDisk (state_of did.new) → IsThrough did.new h rs did.ends.out
    pub sound : did.ends.status ≡ Success → is_poisoned did.new ≡ false
    pub quiet : did.ends.status ≡ Success → PrintsNothing did.ends.errors
    pub kept : did.ends.status ≡ Success → did.ends.out.new.failures ≡ did.ends.out.old.failures
    pub notes : HidesNoForeign did
    pub stopped : did.ends.status ≡ Failed → (h : History) → HasAnsweredNone did.old h rs → HasCleanDisk (state_of did.new) → IsStoppedAt did.new h rs did.ends.out
    pub told : did.ends.status ≡ Failed → IsUnread OfInput did
        ⊎ PrintsFailure (λ failure. IsOfRun did.old did.new (λ h. HasAnsweredNone did.old h rs) failure × IsOfReplies did.ends.out failure) did.ends.errors
    pub poisoned : is_poisoned did.old ≡ true → (did.ends.status ≡ Failed) × (did.new ≡ did.old) × (did.ends.out.new.contents ≡ did.ends.out.old.contents)
        × PrintsFailure (λ failure. (failure ≡ Poisoned) ⊎ OfInput failure) did.ends.errors
    pub no_deed : (h : History) → Represents did.old h → All (AddsNoDeed h) rs → HasCleanDisk (state_of did.new) → CommitsNothing (state_of did.old) (state_of did.new)
    pub endures : Endures (state_of did.old) (state_of did.new)

  -- What a command on request lines did. Ok: these requests were read, and those after the first a acted on, of whatever
  -- history the registry represents. Err: this is the first line that is not a request.
  abbrev pub IsApplied : (Failure → Type 0) → Effect S g → Result (List Request) BadLine → ℕ → Type 0
  IsApplied OfInput did (Err bad) a = IsRejected OfInput did (bad_line_text bad)
  IsApplied OfInput did (Ok rs) a = (length rs < a → IsRejected OfInput did exceeds_text) × (a ≤ length rs → IsRun OfInput did (drop a rs))
