-- What a call on the tables of an older schema does within a transaction.
use Rattle.std.specs.Prelude.{ℕ, List}
use Rattle.sqlite.specs.Effect.{Database}
use Rattle.sqlite.specs.State.{State}
use Rattle.table_laws.specs.Inside.{GoesOn}
use Rattle.registry_rows.specs.Tables.{Tables}
use Rattle.registry_old_rows.specs.Between.{HoldsSecond, HoldsBoth}

-- the transaction goes on, and these functions give the tables of both schemas after the call, for this founding vendor
abbrev pub Moves : ℕ → (Tables → Tables → Tables) → (Tables → Tables → Tables) → State → State → Type 0
Moves vid olds news old new = GoesOn old new × ((o t : Tables) → HoldsBoth vid old.now o t → HoldsBoth vid new.now (olds o t) (news o t))

-- the same for the tables of the second schema and the reserved numbers
abbrev pub Rewrites : ℕ → (Tables → Tables) → (List ℕ → List ℕ) → State → State → Type 0
Rewrites vid after left old new = GoesOn old new × ((t : Tables) (numbers : List ℕ) → HoldsSecond vid old.now t numbers → HoldsSecond vid new.now (after t) (left numbers))

-- the values of a store of the second schema
pub record Second : Type 0 where
  pub vid : ℕ
  pub tables : Tables
  pub numbers : List ℕ

abbrev pub IsHeld : Database → Second → Type 0
IsHeld db x = HoldsSecond x.vid db x.tables x.numbers
