-- Whether a database has the table meta.
use Rattle.std.specs.Prelude.{Bool, codes}
use Rattle.std.specs.List.{list_any}
use Rattle.std.specs.Str.{bytes_eq}
use Rattle.sqlite_schema.specs.declared.schema.Table.{Table}
use Rattle.sqlite_schema.specs.declared.schema.Schema.{Schema}

-- a table of the schema is called meta
abbrev pub has_meta_table : Schema → Bool
has_meta_table schema = list_any (λ (table : Table). bytes_eq table.name (codes "meta")) schema.tables
