-- The record of a registry, as it is written.
use Rattle.std.specs.Prelude.{◌≡◌, ◌⊎◌, ℕ, true, List, [], ◌∷◌, ◌++◌, take, drop, Option, Some, None}
use Rattle.sqlite.specs.Store.{Ghosts}
use Rattle.registry_rules.specs.Accepted.{AreValid, accepted_of}
use Rattle.registry_rules.specs.declared.accepted.Accepted.{Accepted}
use Rattle.registry_rules.specs.History.{History}
use Rattle.registry_wire.specs.Record.{accepted_line, founding_line}
use Rattle.registry_store.specs.declared.registry.Registry.{Registry}
use Rattle.registry_store.specs.Promise.{NotesForeign, is_poisoned}
use Rattle.registry_store.specs.Queries.{IsUntouched}
use Rattle.registry_commands.specs.declared.messages.Failure.{Failure}
use Rattle.registry_commands.specs.declared.messages.Failure.TheVariants.{File}
use Rattle.registry_commands.specs.declared.status.ExitStatus.TheVariants.{Success, Failed}
use Rattle.registry_commands.specs.Ends.{Effect, Receives, ReceivesPrefix}
use Rattle.registry_commands.specs.Failures.{IsOfOutput, PrintsFailure, PrintsNothing}
use Rattle.registry_commands.specs.Shown.{HidesNoForeign, HoldsOfHistory, IsOfReading, ShowsNothing}

-- accepted requests as lines, one after another
abbrev pub accepted_lines : List Accepted → List ℕ
accepted_lines [] = []
accepted_lines (accepted ∷ more) = (accepted_line accepted ++ 10 ∷ []) ++ accepted_lines more

-- The record of a history: the line of its founding, and then a line for each accepted request. Or only the lines of the
-- requests after the first n.
abbrev pub record_text : History → Option ℕ → List ℕ
record_text h None = (founding_line h.founding ++ 10 ∷ []) ++ accepted_lines (accepted_of h.deeds)
record_text h (Some n) = accepted_lines (drop n (accepted_of h.deeds))

-- if its requests are valid, these are the next ones of the history after the first n, at most 64
abbrev pub AreNextRequests : ℕ → History → List Accepted → Type 0
AreNextRequests n h items = AreValid h.deeds → items ≡ take 64 (drop n (accepted_of h.deeds))

module _ {S : Type 0} {g : Ghosts S} where
  -- The failures of writing a record. File: the output failed, and no call found the rows of no history, if none had before. Any
  -- other: the registry could not be read.
  abbrev pub IsOfRecord : Registry S g → Registry S g → Failure → Type 0
  IsOfRecord it new failure = ((failure ≡ File) × NotesForeign it new None) ⊎ IsOfReading it new failure

  -- The record of the history is written, whole or in part, if its requests are valid; and nothing else is.
  pub record IsRecordWritten (did : Effect S g) (after : Option ℕ) : Type 0 where
    pub left : IsUntouched did.old did.new
    pub ends : ((did.ends.status ≡ Success) × PrintsNothing did.ends.errors)
        ⊎ ((did.ends.status ≡ Failed) × PrintsFailure (λ failure. IsOfRecord did.old did.new failure × IsOfOutput did.ends.out.old.failures did.ends.out.new.failures failure) did.ends.errors)
    pub kept : did.ends.status ≡ Success → did.ends.out.new.failures ≡ did.ends.out.old.failures
    pub whole : did.ends.status ≡ Success → HoldsOfHistory did.old did.new (λ h. AreValid h.deeds → Receives did.ends.out (record_text h after))
    pub part : did.ends.status ≡ Failed → HoldsOfHistory did.old did.new (λ h. AreValid h.deeds → ReceivesPrefix did.ends.out (record_text h after))
    pub poisoned : is_poisoned did.old ≡ true → ShowsNothing did
    pub notes : HidesNoForeign did
