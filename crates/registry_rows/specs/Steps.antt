-- What a call on the tables does within a transaction.
use Rattle.std.specs.Prelude.{◌≡◌, ◌≢◌, ℕ, List, Bool, true, false, IsTrue, Result, Ok, Err, MatchBool, MatchResult, Vec}
use Rattle.std.specs.Borrow.{MutBor}
use Rattle.std.specs.declared.alloc.Global.{Global}
use Rattle.sqlite_trees.specs.declared.store.Store.{Ghosts}
use Rattle.sqlite.specs.Effect.{Database}
use Rattle.sqlite.specs.Held.{Held, state}
use Rattle.sqlite.specs.Order.{Row}
use Rattle.sqlite.specs.State.{State, HasCleanDisk, IsUnchanged}
use Rattle.sqlite.specs.declared.error.Error.{Error}
use Rattle.sqlite.specs.declared.error.Error.TheVariants.{SqliteFailure}
use Rattle.sqlite.specs.declared.error.ErrorCode.TheVariants.{ConstraintViolation}
use Rattle.sqlite_schema.specs.declared.schema.Constraint.{Constraint}
use Rattle.table_laws.specs.Inside.{GoesOn, StaysInside, CommitsNothing, StoreFailed}
use Rattle.registry_schema.specs.Faults.{IsFaultOf}
use Rattle.registry_schema.specs.declared.fault.TableFault.{TableFault}
use Rattle.registry_schema.specs.declared.fault.TableFault.TheVariants.{Store, Foreign}
use Rattle.registry_rows.specs.Tables.{Tables, Holds}

-- the result is this value, unless out of memory
abbrev pub Decodes : {A : Type 0} → Result A TableFault → A → Type 0
Decodes (Ok a) value = a ≡ value
Decodes (Err e) value = e ≢ Foreign

-- what an INSERT told: it inserted its row, or another row has the key, or it failed
abbrev pub IsInserted : Result ℕ Error → Result Bool TableFault → Type 0
IsInserted (Ok count) (Ok inserted) = inserted ≡ true
IsInserted (Ok count) (Err fault) = ⊥
IsInserted (Err e) (Ok inserted) = (inserted ≡ false) × (rule : Constraint) × (e ≡ SqliteFailure (ConstraintViolation rule))
IsInserted (Err e) (Err fault) = IsFaultOf e fault

-- the transaction goes on, and this function gives the tables after the call
abbrev pub Changes : (Tables → Tables) → State → State → Type 0
Changes after old new = GoesOn old new × ((t : Tables) → Holds old.now t → Holds new.now (after t))

module _ (old new : State) where
  -- What is held determines the result, and does not change. Foreign comes only if nothing of that kind is held, and Store only if
  -- nothing of that kind is or the store failed.
  abbrev pub Tells : {A X : Type 0} → (X → Type 0) → Result A TableFault → (X → A → Type 0) → Type 0
  Tells {A} {X} Held (Ok a) Says = GoesOn old new × ((x : X) → Held x → IsUnchanged old new × Says x a)
  Tells {A} {X} Held (Err e) Says = (e ≡ Foreign → GoesOn old new × ((x : X) → ¬ Held x)) × StaysInside old new × (e ≡ Store → (x : X) → Held x → StoreFailed old new)

module _ {S : Type 0} (g : Ghosts S) (old new : MutBor (Held S)) where
  -- This is done within the transaction, or a fault comes that is not Foreign, and the transaction goes on or was rolled back.
  -- Nothing is committed.
  pub record WritesWithin {A : Type 0} (result : Result A TableFault) (Does : State → State → Type 0) : Type 0 where
    pub same_reference : new.ghost_name ≡ old.ghost_name
    pub done : HasCleanDisk (state g new.now) → IsTrue (state g old.now).in_transaction → MatchResult result (λ _. Does (state g old.now) (state g new.now)) (λ _. StaysInside (state g old.now) (state g new.now))
    pub fault : result ≢ Err Foreign
    pub survives : CommitsNothing (state g old.now) (state g new.now)

  -- This is done if the result is true; otherwise another row has the key, and nothing changes.
  pub record Inserts (result : Result Bool TableFault) (Does : State → State → Type 0) : Type 0 where
    pub same_reference : new.ghost_name ≡ old.ghost_name
    pub done : HasCleanDisk (state g new.now) → IsTrue (state g old.now).in_transaction
        → MatchResult result (λ inserted. MatchBool inserted (Does (state g old.now) (state g new.now)) (IsUnchanged (state g old.now) (state g new.now))) (λ _. StaysInside (state g old.now) (state g new.now))
    pub fault : result ≢ Err Foreign
    pub survives : CommitsNothing (state g old.now) (state g new.now)

  -- what the database holds is read within the transaction; nothing is committed
  pub record ReadsWithin {A X : Type 0} (result : Result A TableFault) (Is : Database → X → Type 0) (Says : X → A → Type 0) : Type 0 where
    pub same_reference : new.ghost_name ≡ old.ghost_name
    pub told : HasCleanDisk (state g new.now) → IsTrue (state g old.now).in_transaction → Tells (state g old.now) (state g new.now) (Is (state g old.now).now) result Says
    pub survives : CommitsNothing (state g old.now) (state g new.now)

  -- its rows are read as SELECT shows them; a fault is never Foreign
  pub record ReadsRows {X : Type 0} (result : Result (Vec Row Global) TableFault) (Is : Database → X → Type 0) (shown : X → List Row) : Type 0 where
    pub reads : ReadsWithin result Is (λ x rows. rows.items ≡ shown x)
    pub fault : result ≢ Err Foreign
