-- What is read of a founding file, and what a founding does to its connection.
use Rattle.std.specs.Prelude.{◌≡◌, ◌⊎◌, false, IsTrue, Result, Ok, Err}
use Rattle.sqlite.specs.Store.{Ghosts}
use Rattle.sqlite.specs.State.{HasCleanDisk, Survives}
use Rattle.sqlite.specs.Held.{Held, state}
use Rattle.registry_rules.specs.declared.founding.Founding.{Founding}
use Rattle.registry_rules.specs.History.{founded}
use Rattle.table_laws.specs.Making.{no_schema}
use Rattle.registry_tables.specs.Rows.{Rows, newest}
use Rattle.registry_tables.specs.Calls.{HasNoMeta}
use Rattle.registry_store.specs.Promise.{IsAt}
use Rattle.registry_wire.specs.declared.refusal.WireRefusal.{WireRefusal}
use Rattle.registry_wire.specs.Founding.{FoundsAs, Listed}
use Rattle.registry_commands.specs.declared.messages.Failure.{Failure}
use Rattle.registry_commands.specs.declared.messages.Failure.TheVariants.{Memory, Store, Taken}
use Rattle.registry_commands.specs.declared.status.ExitStatus.{ExitStatus}
use Rattle.registry_commands.specs.declared.status.ExitStatus.TheVariants.{Success, Failed, Rejected}
use Rattle.registry_commands.specs.Ends.{Output}
use Rattle.registry_commands.specs.Failures.{Prints, PrintsFailure, PrintsNothing}
use Rattle.registry_commands.specs.Messages.{refusal_line}

-- the connection before a founding and after it, what the error output took, and the exit status
pub record Attempt (S : Type 0) : Type 0 where
  pub old : Held S
  pub new : Held S
  pub errors : Output
  pub status : ExitStatus

abbrev pub attempt : {S : Type 0} → Held S → Held S → Output → ExitStatus → Attempt S
attempt old new errors status = record { old = old; new = new; errors = errors; status = status }

module _ {S : Type 0} (g : Ghosts S) where
  -- the store had no table, and now holds this registry, with no deed
  pub record IsFounded (old new : Held S) (founding : Founding) : Type 0 where
    pub none_before : (state g old).now.schema ≡ no_schema
    pub rows : HasCleanDisk (state g new) → IsAt newest (state g new) (founded founding)

  -- The failures of a founding: Taken if the database had a table meta, and then nothing is changed; Store and Memory only if
  -- it had none, or a transaction was open; never Foreign, Poisoned or File.
  abbrev pub IsOfFounding : Held S → Held S → Failure → Type 0
  IsOfFounding old new Store = HasNoMeta (state g old).now ⊎ IsTrue old.in_transaction
  IsOfFounding old new Memory = HasNoMeta (state g old).now ⊎ IsTrue old.in_transaction
  IsOfFounding old new Taken = (new ≡ old) × ¬ HasNoMeta (state g old).now
  IsOfFounding old new _ = ⊥

  -- A founding was attempted. Whether it failed or not, a crash leaves what it could leave before or, if the store had no
  -- table, the whole new registry; and no transaction is left open. Nothing is done in one that was open before.
  pub record IsTriedOn (did : Attempt S) (founding : Founding) : Type 0 where
    pub survives : Survives (state g did.old) (state g did.new) (λ db. ((state g did.old).now.schema ≡ no_schema) × Rows newest db (founded founding))
    pub ends : ((did.status ≡ Success) × IsFounded did.old did.new founding × PrintsNothing did.errors)
        ⊎ ((did.status ≡ Failed) × PrintsFailure (IsOfFounding did.old did.new) did.errors)
    pub idle : did.old.in_transaction ≡ false → did.new.in_transaction ≡ false
    pub busy : IsTrue did.old.in_transaction → (did.status ≡ Failed) × (did.new ≡ did.old)

-- What is read of a founding file, by what it lists or by its first fault: the founding, and nothing is printed; or the exit
-- status, and why is printed.
abbrev pub ReadsFounding : (Failure → Type 0) → Result Listed WireRefusal → Output → Result Founding ExitStatus → Type 0
ReadsFounding OfInput listed errors (Ok founding) = FoundsAs (Ok founding) listed × (errors.new ≡ errors.old)
ReadsFounding OfInput listed errors (Err status) =
    ((refusal : WireRefusal) × (listed ≡ Err refusal) × (status ≡ Rejected) × Prints errors (refusal_line refusal))
    ⊎ ((status ≡ Failed) × PrintsFailure OfInput errors)
