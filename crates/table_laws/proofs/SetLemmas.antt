-- A statement on rows changes the rows of one table.
use Rattle.std.proofs.Common.{◌≡◌, ◌≢◌, ℕ, nat_eq, inl, inr, if◌then◌else◌, List, [], ◌∷◌, ap, ◌∙◌}
use Rattle.std.proofs.lemmas.Bool.Decides.{eqb_tells}
use Rattle.std.specs.List.{AllByRecursion}
use Rattle.sqlite.specs.Order.{Row}
use Rattle.sqlite.specs.Tree.{Trees}
use Rattle.sqlite.specs.Table.{Table}
use Rattle.sqlite.specs.Schema.{Schema}
use Rattle.sqlite.specs.Effect.{Database}
use Rattle.sqlite_catalog.specs.Listing.{IsSound}
use Rattle.sqlite_schema.specs.declared.schema.Keys.{Keys}
use Rattle.sqlite_rules.specs.Action.{works}

-- the schema has no foreign key action
abbrev pub IsUntied : Schema → Type 0
IsUntied schema = (keys : Keys) (tree : ℕ) (olds news : List Row) → works schema keys 0 tree olds news ≡ []

-- the table has these rows, and each other table keeps its rows
pub record Sets (schema : Schema) (tree : ℕ) (old new : Database) (rows : List Row) : Type 0 where
  pub same_schema : new.schema ≡ schema
  pub sound : IsSound schema new.trees
  pub rows_are : new.trees tree ≡ rows
  pub others : AllByRecursion (λ (t : Table). t.tree ≢ tree → new.trees t.tree ≡ old.trees t.tree) schema.tables

-- the trees with these rows in one tree
abbrev pub with_rows : Trees → ℕ → List Row → Trees
with_rows db tree rows n = if nat_eq n tree then rows else db n

-- the tables have the same rows in both trees
abbrev pub AgreeOn : List Table → Trees → Trees → Type 0
AgreeOn tables a b = AllByRecursion (λ (t : Table). a t.tree ≡ b t.tree) tables

others_agree : (tables : List Table) (tree : ℕ) (old new : Trees) (rows : List Row) → new tree ≡ rows → AllByRecursion (λ (t : Table). t.tree ≢ tree → new t.tree ≡ old t.tree) tables
    → AgreeOn tables new (with_rows old tree rows)
others_agree [] tree old new rows here others = tt
others_agree (t ∷ ts) tree old new rows here others = (
  elim (eqb_tells t.tree tree) [
    | inl same ↦ rw same.0 (ap new same.1 ∙ here)
    | inr apart ↦ rw apart.0 (others.0 apart.1)
  ],
  others_agree ts tree old new rows here others.1,
)

-- after the statement all tables but this one have their rows of before
pub sets_agree : (schema : Schema) (tree : ℕ) (old new : Database) (rows : List Row) → Sets schema tree old new rows → AgreeOn schema.tables new.trees (with_rows old.trees tree rows)
sets_agree schema tree old new rows sets = others_agree schema.tables tree old.trees new.trees rows sets.rows_are sets.others
