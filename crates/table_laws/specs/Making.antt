-- The tables that CREATE TABLE texts create.
use Rattle.std.specs.Prelude.{◌≡◌, ℕ, List, [], fold, Result, Ok, Err}
use Rattle.std.specs.List.{AllByRecursion}
use Rattle.sqlite_schema.specs.declared.schema.Table.{Table}
use Rattle.sqlite_schema.specs.declared.schema.Schema.{Schema}
use Rattle.sqlite_resolve.specs.declared.error.CompileError.{CompileError}
use Rattle.sqlite_resolve.specs.Compile.{table_defined_by}
use Rattle.sqlite_catalog.specs.Change.{created, next_tree, KeepsRows}
use Rattle.sqlite_catalog.specs.Listing.{IsSound}
use Rattle.sqlite_trees.specs.Tree.{Trees}
use Rattle.sqlite.specs.Effect.{Database}
use Rattle.sqlite.specs.State.{State}
use Rattle.table_laws.specs.Inside.{GoesOn}

-- the schema of an empty database
abbrev pub no_schema : Schema
no_schema = record { tables = []; indexes = []; views = [] }

abbrev pub with_made : Schema → Result Table CompileError → Schema
with_made schema (Ok table) = created schema table
with_made schema (Err e) = schema

-- the schema after CREATE TABLE by these texts, in order, on an empty database
abbrev pub schema_by : List (List ℕ) → Schema
schema_by = fold (λ schema text. with_made schema (table_defined_by text)) no_schema

-- The trees list exactly the tables that these texts create in order, with the indexes of their keys, and their rows obey
-- the tables.
abbrev pub HasTables : List (List ℕ) → Trees → Type 0
HasTables texts db = IsSound (schema_by texts) db

-- the database has exactly the tables of the schema, without rows
pub record IsBlank (schema : Schema) (db : Database) : Type 0 where
  pub is : db.schema ≡ schema
  pub sound : IsSound schema db.trees
  pub none : AllByRecursion (λ (t : Table). db.trees t.tree ≡ []) schema.tables

-- the transaction goes on, and the empty tables of the first schema become those of the second
abbrev pub Adds : Schema → Schema → State → State → Type 0
Adds before after old new = GoesOn old new × (IsBlank before old.now → IsBlank after new.now)

-- the schema with this table added: its other tables keep their rows, and this one is empty
pub record HasMade (schema : Schema) (table : Table) (old new : Database) : Type 0 where
  pub is : new.schema ≡ created schema table
  pub sound : IsSound (created schema table) new.trees
  pub empty : new.trees (next_tree schema) ≡ []
  pub others : KeepsRows schema.tables old.trees new.trees

-- the schema with these tables added: its other tables keep their rows, and these are empty
pub record HasMore (schema : Schema) (added : List Table) (old new : Database) : Type 0 where
  pub is : new.schema ≡ fold created schema added
  pub sound : IsSound (fold created schema added) new.trees
  pub kept : KeepsRows schema.tables old.trees new.trees
  pub empty : AllByRecursion (λ (t : Table). new.trees t.tree ≡ []) added

-- the transaction goes on, and adds these tables to a database of the schema
abbrev pub AddsTo : Schema → List Table → State → State → Type 0
AddsTo schema added old new = GoesOn old new × (old.now.schema ≡ schema → HasMore schema added old.now new.now)
