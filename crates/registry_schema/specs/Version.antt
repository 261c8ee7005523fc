-- The schema version that the names of the tables give.
use Rattle.std.specs.Prelude.{ℕ, Bool, true, false, ◌&&◌, if◌then◌else◌, List, [], ◌∷◌, ◌++◌, codes, Option, Some, None}
use Rattle.std.specs.Str.{bytes_eq}
use Rattle.sqlite_schema.specs.declared.schema.Table.{Table}

-- the names of each schema's tables, in the order of their creation
abbrev pub names_1 : List (List ℕ)
names_1 = codes "meta" ∷ codes "curators" ∷ codes "licences" ∷ codes "fixed" ∷ codes "orgs" ∷ codes "petitions" ∷ codes "entries" ∷ codes "reserved" ∷ codes "kept" ∷ []

abbrev pub names_2 : List (List ℕ)
names_2 = names_1 ++ codes "spans" ∷ []

abbrev pub names_3 : List (List ℕ)
names_3 = names_2 ++ codes "vendors" ∷ codes "spans3" ∷ codes "entries3" ∷ codes "petitions3" ∷ []

abbrev pub names_4 : List (List ℕ)
names_4 = names_3 ++ codes "digests4" ∷ codes "reasons4" ∷ []

abbrev pub names_5 : List (List ℕ)
names_5 = names_4 ++ codes "opened5" ∷ codes "closed5" ∷ []

-- the tables have exactly these names, in this order
abbrev pub are_named : List (List ℕ) → List Table → Bool
are_named [] [] = true
are_named (name ∷ names) (table ∷ tables) = bytes_eq table.name name && are_named names tables
are_named [] (table ∷ tables) = false
are_named (name ∷ names) [] = false

-- the version of the schema whose tables have these names
abbrev pub version_named : List Table → Option ℕ
version_named tables =
    if are_named names_1 tables then Some 1
    else if are_named names_2 tables then Some 2
    else if are_named names_3 tables then Some 3
    else if are_named names_4 tables then Some 4
    else if are_named names_5 tables then Some 5
    else None
