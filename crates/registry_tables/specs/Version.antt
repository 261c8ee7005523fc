-- The schema version that a store names.
use Rattle.std.specs.Prelude.{◌≡◌, true, nat_eq}
use Rattle.std.specs.List.{list_any}
use Rattle.sqlite.specs.Effect.{Database}
use Rattle.registry_rows.specs.declared.meta.Meta.{Meta}
use Rattle.registry_rows.specs.Tables.{Tables, Holds}
use Rattle.registry_tables.specs.Rows.{newest}

-- a row of meta names the newest schema version
abbrev pub SaysNewest : Database → Type 0
SaysNewest db = (t : Tables) → Holds db t → list_any (λ (meta : Meta). nat_eq meta.version newest) t.metas ≡ true
