-- One migration step, from a schema to a later one.
use Rattle.std.specs.Prelude.{◌≡◌, ◌≤◌, ◌⊎◌, ℕ, nat_eq, if◌then◌else◌, [], ◌∷◌, Some, Result, Ok, Err, IsTrue}
use Rattle.sqlite.specs.Effect.{Database}
use Rattle.sqlite.specs.State.{State}
use Rattle.sqlite.specs.Tree.{Trees}
use Rattle.table_laws.specs.Inside.{GoesOn}
use Rattle.registry_schema.specs.declared.fault.TableFault.{TableFault}
use Rattle.registry_schema.specs.declared.fault.TableFault.TheVariants.{Foreign}
use Rattle.registry_schema.specs.Version.{version_named}
use Rattle.registry_rules.specs.History.{History}
use Rattle.registry_rows.specs.declared.meta.Meta.{Meta}
use Rattle.registry_rows.specs.Tables.{Tables, Holds}
use Rattle.registry_old_rows.specs.Between.{HoldsBoth}
use Rattle.registry_old_rows.specs.Steps.{Second, IsHeld}
use Rattle.registry_tables.specs.Rows.{newest, Rows}
use Rattle.registry_tables.specs.Versions.{HoldsOf}

-- the values are held in the tables of the second schema, and the one row of meta names this version
pub record IsMarked (version : ℕ) (db : Database) (x : Second) : Type 0 where
  pub held : IsHeld db x
  pub meta : Meta
  pub only : x.tables.metas ≡ meta ∷ []
  pub named : meta.version ≡ version

-- values that a database of the newest schema holds while it is migrated from the third or the fourth
pub record Raised : Type 0 where
  pub tables : Tables
  pub meta : Meta

-- the one row of meta still names this version
pub record IsMarkedNewest (version : ℕ) (db : Database) (x : Raised) : Type 0 where
  pub held : Holds db x.tables
  pub only : x.tables.metas ≡ x.meta ∷ []
  pub named : x.meta.version ≡ version

-- the version to which a step takes a store of this one
abbrev pub raised_to : ℕ → ℕ
raised_to version = if nat_eq version 1 then 2 else newest

module _ (version : ℕ) (old new : State) where
  -- The transaction goes on, and the rows of each history become those of the later schema. Foreign comes only from an open
  -- connection that holds the rows of no history in this schema.
  abbrev pub Raises : {A : Type 0} → Result A TableFault → Type 0
  Raises (Ok a) = GoesOn old new × ((h : History) → HoldsOf version old.now h → HoldsOf (raised_to version) new.now h)
  Raises (Err e) = e ≡ Foreign → IsTrue old.is_open × ((h : History) → ¬ HoldsOf version old.now h)

-- what a step may commit
abbrev pub CommitsStep : ℕ → State → Trees → Type 0
CommitsStep version old db = IsTrue old.is_open × ((h : History) → Rows version old.now.trees h → Rows (raised_to version) db h)

-- what two steps end in
abbrev pub EndsTwo : State → Trees → Type 0
EndsTwo old db = IsTrue old.is_open × ((h : History) → Rows 1 old.now.trees h → Rows newest db h)

-- what two steps may commit
abbrev pub CommitsTwo : State → Trees → Type 0
CommitsTwo old db = IsTrue old.is_open × ((h : History) → Rows 1 old.now.trees h → Rows 2 db h ⊎ Rows newest db h)

-- what a migration may commit: the rows of the same history in this schema or a later one
abbrev pub CommitsLater : State → Trees → Type 0
CommitsLater old db = IsTrue old.is_open × ((h : History) (version : ℕ) → Rows version old.now.trees h → (later : ℕ) × (version ≤ later) × Rows later db h)

-- the names of the tables are those of an older schema
abbrev pub IsNamedOlder : State → Type 0
IsNamedOlder s = (version_named s.now.schema.tables ≡ Some 1) ⊎ ((version_named s.now.schema.tables ≡ Some 2) ⊎ ((version_named s.now.schema.tables ≡ Some 3) ⊎ (version_named s.now.schema.tables ≡ Some 4)))

-- a connection is open now if and only if it was open before
abbrev pub StaysOpen : State → State → Type 0
StaysOpen old new = (IsTrue old.is_open → IsTrue new.is_open) × (IsTrue new.is_open → IsTrue old.is_open)

-- while it is open the connection shows the rows of the history in this schema, and they are committed
abbrev pub IsAtRest : ℕ → State → History → Type 0
IsAtRest version s h = IsTrue s.is_open → (s.now ≡ s.committed) × Rows version s.committed.trees h

-- the tables that the later schemas add, still empty
abbrev pub emptied : Tables → Tables
emptied t = record t { vendors = []; spans = []; entries = []; petitions = []; digests = []; reasons = []; opened = []; closed = [] }

abbrev pub moved : Tables → Tables
moved o = record o { spans = []; entries = []; petitions = [] }

-- the transaction goes on, and the rows of the second schema's tables move to those of the third
abbrev pub MovesAll : ℕ → State → State → Type 0
MovesAll vid old new = GoesOn old new × ((o : Tables) → HoldsBoth vid old.now o (emptied o) → HoldsBoth vid new.now (moved o) (record o { vendors = []; digests = []; reasons = []; opened = []; closed = [] }))

-- the connection is open and at rest, and its tables satisfy P
abbrev pub IsMadeBy : (Trees → Type 0) → State → Type 0
IsMadeBy P s = IsTrue s.is_open × (s.now ≡ s.committed) × P s.committed.trees
