-- The shapes of STRICT tables.
use Rattle.std.specs.Prelude.{ℕ, Bool, true, false, List, [], ◌∷◌, map, Option, Some, None}
use Rattle.sqlite.specs.Collation.TheVariants.{Binary}
use Rattle.sqlite.specs.declared.types.Value.TheVariants.{Null}
use Rattle.sqlite.specs.Kind.{Kind}
use Rattle.sqlite.specs.Kind.TheVariants.{Integer, Text, Blob}
use Rattle.sqlite_schema.specs.declared.schema.Column.{Column}
use Rattle.sqlite.specs.Table.{Table}
use Rattle.sqlite_value.specs.Keys.{plain}

-- a column of a STRICT table: its name, its kind and whether it is NOT NULL
abbrev pub column_of : List ℕ → Kind → Bool → Column
column_of name kind required = record { name = name; kind = kind; is_strict = true; not_null = required; default = Null; collation = Binary }

-- INTEGER NOT NULL
abbrev pub integer : List ℕ → Column
integer name = column_of name Integer true

-- INTEGER
abbrev pub integer_or_null : List ℕ → Column
integer_or_null name = column_of name Integer false

-- TEXT NOT NULL
abbrev pub text : List ℕ → Column
text name = column_of name Text true

-- TEXT
abbrev pub text_or_null : List ℕ → Column
text_or_null name = column_of name Text false

-- BLOB NOT NULL
abbrev pub blob : List ℕ → Column
blob name = column_of name Blob true

-- a STRICT table without CHECK, foreign key, default or AUTOINCREMENT
abbrev pub bare_table : ℕ → List ℕ → List Column → Option ℕ → List ℕ → List (List ℕ) → Table
bare_table tree name columns key primary uniques = record {
  name = name;
  tree = tree;
  columns = columns;
  key = key;
  primary = primary;
  uniques = uniques;
  orders = map (λ _. plain) uniques;
  checks = [];
  references = [];
  computed = [];
  stamps = record { places = []; terms = []; formats = [] };
  is_counted = false;
}

-- a table whose first column is its INTEGER PRIMARY KEY, and so its rowid
abbrev pub numbered_table : ℕ → List ℕ → List Column → Table
numbered_table tree name columns = bare_table tree name columns (Some 0) (0 ∷ []) []

-- a table whose PRIMARY KEY is these columns, with an index of its own in the next tree
abbrev pub keyed_table : ℕ → List ℕ → List ℕ → List Column → Table
keyed_table tree name key columns = bare_table tree name columns None key (key ∷ [])
