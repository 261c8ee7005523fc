-- What a value that was read says of its row.
use Rattle.std.specs.Prelude.{◌≡◌, ◌≢◌, ◌+◌, ℕ, ⊤, List, [], ◌∷◌, map, slice_get, Option, Some, Result, Err, IfOk, MatchOption, MatchResult}
use Rattle.std.specs.List.{AllByRecursion}
use Rattle.sqlite.specs.Order.{Row, column}
use Rattle.sqlite.specs.declared.types.Value.TheVariants.{Text}
use Rattle.registry_rules.specs.declared.record.Entry.{Entry}
use Rattle.registry_rules.specs.declared.record.Terms.{Terms}
use Rattle.registry_schema.specs.declared.fault.TableFault.{TableFault}
use Rattle.registry_schema.specs.declared.fault.TableFault.TheVariants.{Store, Foreign}
use Rattle.registry_rows.specs.Rows.{flag, part}
use Rattle.registry_rows.specs.Steps.{Decodes}

-- the row has these values from this column on
abbrev pub HasColumns : Row → ℕ → Row → Type 0
HasColumns row at [] = ⊤
HasColumns row at (value ∷ values) = (column row at ≡ value) × HasColumns row (at + 1) values

-- the columns of the terms of an entry, and those after its number
abbrev pub terms_columns : Option Terms → Row
terms_columns terms = part (λ t. t.licence) terms ∷ part (λ t. t.site) terms ∷ part (λ t. t.source) terms ∷ []

abbrev pub entry_columns : Entry → Row
entry_columns entry = Text entry.org ∷ flag entry.held ∷ Text entry.card.title ∷ terms_columns entry.card.terms

-- there are as many values as rows, and each row has the columns of the value at its place
abbrev pub AreShown : {V : Type 0} → (V → Row) → List Row → List V → Type 0
AreShown show [] [] = ⊤
AreShown show (row ∷ rows) (value ∷ values) = HasColumns row 0 (show value) × AreShown show rows values
AreShown show _ _ = ⊥

module _ {V : Type 0} (IsValid : V → Type 0) (show : V → Row) (rows : List Row) where
  -- The rows of valid values give the first of these, unless out of memory. Whatever the rows are, a value that is read is that
  -- of the first row, and there is none only if there is no row.
  pub record DecodesFirst (result : Result (Option V) TableFault) : Type 0 where
    pub decodes : (values : List V) → AllByRecursion IsValid values → rows ≡ map show values → Decodes result (slice_get values 0)
    pub there : IfOk result (λ found. MatchOption found (rows ≡ []) (λ value. (row : Row) × (slice_get rows 0 ≡ Some row) × HasColumns row 0 (show value)))
    pub fault : result ≢ Err Store

  -- The rows of valid values give these, unless out of memory. Whatever the rows are, each gives one value, which it shows.
  pub record DecodesAll {A : Type 0} (items : A → List V) (result : Result A TableFault) : Type 0 where
    pub decodes : (values : List V) → AllByRecursion IsValid values → rows ≡ map show values → MatchResult result (λ all. items all ≡ values) (λ fault. fault ≢ Foreign)
    pub whole : IfOk result (λ all. AreShown show rows (items all))
    pub fault : result ≢ Err Store
