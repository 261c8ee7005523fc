-- What a command shows of a registry without changing it.
use Rattle.std.specs.Prelude.{◌≡◌, ◌⊎◌, true, List, Option, None}
use Rattle.sqlite.specs.Store.{Ghosts}
use Rattle.sqlite.specs.State.{HasCleanDisk}
use Rattle.usbids_text.specs.Documents.{IsTextOf}
use Rattle.usbids_text.specs.Entries.{TopEntry}
use Rattle.usbids_text.specs.Moments.{Moment}
use Rattle.usbids_text.specs.Writing.{written}
use Rattle.registry_rules.specs.History.{History}
use Rattle.registry_reports.specs.History.{IsListing}
use Rattle.registry_store.specs.declared.registry.Registry.{Registry}
use Rattle.registry_store.specs.Promise.{NotesForeign, Represents, is_poisoned, state_of}
use Rattle.registry_store.specs.Queries.{IsUntouched}
use Rattle.registry_commands.specs.declared.messages.Failure.{Failure}
use Rattle.registry_commands.specs.declared.messages.Failure.TheVariants.{Store, Memory, Foreign, Taken, Poisoned, File}
use Rattle.registry_commands.specs.declared.status.ExitStatus.TheVariants.{Failed, Success}
use Rattle.registry_commands.specs.Ends.{Effect}
use Rattle.registry_commands.specs.Failures.{PrintsFailure}
use Rattle.registry_commands.specs.Printed.{IsPrinted, IsUnprinted}

module _ {S : Type 0} {g : Ghosts S} where
  -- The failures of reading a registry. Store and Memory: no call found the rows of no history, if none had before. Poisoned: it was
  -- poisoned before. Foreign: it represented no history, or the disk is not clean. Never Taken, and never File, since nothing is
  -- written yet.
  abbrev pub IsOfReading : Registry S g → Registry S g → Failure → Type 0
  IsOfReading it new Store = NotesForeign it new None
  IsOfReading it new Memory = NotesForeign it new None
  IsOfReading it new Poisoned = is_poisoned it ≡ true
  IsOfReading it new Foreign = ¬ ((h : History) × Represents it h × HasCleanDisk (state_of new))
  IsOfReading it new Taken = ⊥
  IsOfReading it new File = ⊥

  -- this holds of each history that the registry represented, over a clean disk
  abbrev pub HoldsOfHistory : Registry S g → Registry S g → (History → Type 0) → Type 0
  HoldsOfHistory it new P = (h : History) → Represents it h → HasCleanDisk (state_of new) → P h

  -- nothing is shown of a poisoned registry: it stays as it is, and the error output says that it is poisoned
  abbrev pub ShowsNothing : Effect S g → Type 0
  ShowsNothing did =
      (did.ends.status ≡ Failed) × (did.new ≡ did.old) × (did.ends.out.new.contents ≡ did.ends.out.old.contents) × PrintsFailure (λ failure. failure ≡ Poisoned) did.ends.errors

  -- At success no call found the rows of no history, if none had before.
  abbrev pub HidesNoForeign : Effect S g → Type 0
  HidesNoForeign did = did.ends.status ≡ Success → NotesForeign did.old did.new None

  -- The list of the history is written, whole or in part, and the whole is the text of its document; and no call found the rows of
  -- no history, if none had before. Or nothing is written, after a failure.
  pub record IsExported (did : Effect S g) (stamp : Option Moment) : Type 0 where
    pub left : IsUntouched did.old did.new
    pub shown : ((doc : List TopEntry) × NotesForeign did.old did.new None × HoldsOfHistory did.old did.new (λ h. IsListing h doc) × IsTextOf (written doc stamp) doc × IsPrinted (written doc stamp) did.ends)
        ⊎ IsUnprinted (IsOfReading did.old did.new) did.ends
    pub poisoned : is_poisoned did.old ≡ true → ShowsNothing did
