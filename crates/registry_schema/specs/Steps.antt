-- What statements do within a transaction.
use Rattle.std.specs.Prelude.{◌≡◌, ◌≢◌, IsTrue, OnOk, Result, Err}
use Rattle.std.specs.Borrow.{MutBor}
use Rattle.sqlite_trees.specs.declared.store.Store.{Ghosts}
use Rattle.sqlite.specs.Held.{Held, state}
use Rattle.sqlite.specs.State.{State, HasCleanDisk}
use Rattle.table_laws.specs.Inside.{CommitsNothing}
use Rattle.registry_schema.specs.declared.fault.TableFault.{TableFault}
use Rattle.registry_schema.specs.declared.fault.TableFault.TheVariants.{Foreign}

-- Statements within a transaction do this over a clean disk, or a fault comes, which is not Foreign. A crash leaves nothing that it
-- could not leave before. Outside of a transaction no more is said.
pub record WritesTables {S : Type 0} (g : Ghosts S) (old new : MutBor (Held S)) {A : Type 0} (result : Result A TableFault) (Does : State → State → Type 0) : Type 0 where
  pub same_reference : new.ghost_name ≡ old.ghost_name
  pub done : HasCleanDisk (state g new.now) → IsTrue (state g old.now).in_transaction → OnOk result (Does (state g old.now) (state g new.now))
  pub fault : result ≢ Err Foreign
  pub survives : CommitsNothing (state g old.now) (state g new.now)
