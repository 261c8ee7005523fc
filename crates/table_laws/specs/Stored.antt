-- How the rows of a table store values.
use Rattle.std.specs.Prelude.{◌≡◌, ℤ, List, ◌∷◌, map}
use Rattle.std.specs.List.{AllByRecursion}
use Rattle.sqlite.specs.declared.types.Value.TheVariants.{Int}
use Rattle.sqlite.specs.Order.{Row}
use Rattle.sqlite_keyed.specs.Keyed.{IsKeyedBy}

-- the rows store the values, one row for each, in the order of their keys, and no key occurs twice
pub record Stores {X : Type 0} (IsValid : X → Type 0) (key : X → ℤ) (row : X → Row) (rows : List Row) (values : List X) : Type 0 where
  pub rows_are : rows ≡ map row values
  pub keyed : IsKeyedBy key values
  pub valid : AllByRecursion IsValid values

-- the same for a table whose values do not contain the rowid: each stands beside the rowid of its row
abbrev pub StoresWithRowids : {X : Type 0} → (X → Type 0) → (X → Row) → List Row → List (ℤ × X) → Type 0
StoresWithRowids {X} IsValid row = Stores (λ (p : ℤ × X). IsValid p.1) (λ (p : ℤ × X). p.0) (λ (p : ℤ × X). Int p.0 ∷ row p.1)

-- the same without the rowids: some numbering of the values gives the rows
pub record StoresUnnumbered {X : Type 0} (IsValid : X → Type 0) (row : X → Row) (rows : List Row) (values : List X) : Type 0 where
  pub numbered : List (ℤ × X)
  pub stores : StoresWithRowids IsValid row rows numbered
  pub values_are : map (λ (p : ℤ × X). p.1) numbered ≡ values
