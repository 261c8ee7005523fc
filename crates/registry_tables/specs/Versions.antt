-- A database whose schema is known has the rows of a history, in each schema.
use Rattle.std.specs.Prelude.{◌≡◌, ◌⊎◌, ℕ, List, []}
use Rattle.sqlite.specs.Effect.{Database}
use Rattle.registry_rules.specs.History.{History}
use Rattle.registry_rows.specs.Tables.{Tables, Holds}
use Rattle.registry_old_rows.specs.Old.{with_version, HasOneVendor, IsOlder}
use Rattle.registry_old_rows.specs.Between.{HoldsFirst, HoldsSecond, HoldsThird, HoldsFourth}
use Rattle.registry_tables.specs.Rows.{newest, AreRowsOfSpans, AreRecords, IsRecorded}

-- the database holds these values, in the first schema
pub record IsFirst (vid : ℕ) (db : Database) (t : Tables) : Type 0 where
  pub one : HasOneVendor t
  pub older : IsOlder t
  pub numbers : List ℕ
  pub holds : HoldsFirst vid db (with_version 1 t) numbers
  pub reserved : AreRowsOfSpans vid t numbers

-- the same in the second
pub record IsSecond (vid : ℕ) (db : Database) (t : Tables) : Type 0 where
  pub one : HasOneVendor t
  pub older : IsOlder t
  pub holds : HoldsSecond vid db (with_version 2 t) []

-- the same in the third
pub record IsThird (db : Database) (t : Tables) : Type 0 where
  pub older : IsOlder t
  pub holds : HoldsThird db (with_version 3 t)

-- the same in the fourth
pub record IsFourth (db : Database) (t : Tables) : Type 0 where
  pub holds : HoldsFourth db (with_version 4 t)

-- the same in the schema of this version
abbrev pub HoldsValues : ℕ → ℕ → Database → Tables → Type 0
HoldsValues version vid db t = ((version ≡ 1) × IsFirst vid db t) ⊎ (((version ≡ 2) × IsSecond vid db t) ⊎ (((version ≡ 3) × IsThird db t) ⊎ (((version ≡ 4) × IsFourth db t) ⊎ ((version ≡ newest) × Holds db t))))

-- the database holds exactly the rows of the history
unfoldable pub HoldsOf : ℕ → Database → History → Type 0
HoldsOf version db h = (t : Tables) × HoldsValues version h.founding.vendor db t × AreRecords h t × IsRecorded h t
