-- The schema version that a store says, by the names of its tables and by the table meta.
use Rattle.std.specs.Prelude.{◌≡◌, ◌⊎◌, ℕ, List, Bool, true, nat_eq, Some}
use Rattle.std.specs.List.{list_any}
use Rattle.sqlite.specs.Effect.{Database}
use Rattle.registry_schema.specs.Version.{version_named}
use Rattle.registry_rows.specs.declared.meta.Meta.{Meta}
use Rattle.registry_rows.specs.Tables.{Tables}
use Rattle.registry_old_rows.specs.Between.{HoldsFirst, HoldsThird, HoldsFourth}
use Rattle.registry_old_rows.specs.Steps.{Second, IsHeld}
use Rattle.registry_tables.specs.Rows.{newest}
use Rattle.registry_tables.specs.Version.{SaysNewest}

-- some row of these values of `meta` names this version
abbrev pub names_version : ℕ → Tables → Bool
names_version version t = list_any (λ (meta : Meta). nat_eq meta.version version) t.metas

-- the same, of the values that the tables of the second schema store
abbrev pub SaysVersion : ℕ → Database → Type 0
SaysVersion version db = (x : Second) → IsHeld db x → names_version version x.tables ≡ true

-- of the values that the tables of the first schema store, one that names the first
abbrev pub SaysFirst : Database → Type 0
SaysFirst db = (vid : ℕ) (t : Tables) (numbers : List ℕ) → HoldsFirst vid db t numbers → names_version 1 t ≡ true

-- of the values that the tables of the third schema store, one that names the third
abbrev pub SaysThird : Database → Type 0
SaysThird db = (t : Tables) → HoldsThird db t → names_version 3 t ≡ true

-- and of those of the fourth schema, one that names the fourth
abbrev pub SaysFourth : Database → Type 0
SaysFourth db = (t : Tables) → HoldsFourth db t → names_version 4 t ≡ true

-- the names of the tables are those of the schema of this version
abbrev pub IsNamed : ℕ → Database → Type 0
IsNamed version db = version_named db.schema.tables ≡ Some version

-- the tables have the names of an older schema, and, if each row has values of its table, `meta` says its version
abbrev pub IsKnownOlder : Database → Type 0
IsKnownOlder db = (IsNamed 1 db × SaysFirst db) ⊎ ((IsNamed 2 db × SaysVersion 2 db) ⊎ ((IsNamed 3 db × SaysThird db) ⊎ (IsNamed 4 db × SaysFourth db)))

-- the tables have the names of a schema, and, if each row has values of its table, `meta` says its version
abbrev pub IsKnown : Database → Type 0
IsKnown db = IsKnownOlder db ⊎ (IsNamed newest db × SaysNewest db)
