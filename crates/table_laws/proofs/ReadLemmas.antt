-- What a query on one table shows of the values that the table stores, in the order of their keys.
use Rattle.std.proofs.Common.{◌≡◌, ℕ, ℤ, Bool, List, [], ◌∷◌, map, filter, find, slice_get, Option, Some, None, false, refl, sym, ap, subst, ◌∙◌, int_cmp}
use Rattle.std.specs.List.{AllByRecursion, list_all}
use Rattle.std.specs.Option.{option_map}
use Rattle.sqlite_keyed.proofs.ListLemmas.{slice_get-filter}
use Rattle.sqlite_rules.proofs.ListLemmas.{all_has, has_found}
use Rattle.std.proofs.lemmas.List.{map-id}
use Rattle.std.proofs.lemmas.Option.{slice_get-map}
use Rattle.sqlite.specs.Order.{Row}
use Rattle.sqlite.specs.Tree.{Trees}
use Rattle.sqlite.specs.Term.{eval_all, holds}
use Rattle.sqlite.specs.Query.{Query, inner, end, output, output_cmp, page, IsAnswer}
use Rattle.sqlite_typed.proofs.AnswerLemmas.{Source, last_table, at_end, answer_by_keys}
use Rattle.table_laws.specs.Stored.{Stores, StoresUnnumbered}
use Rattle.sqlite_trees.proofs.ListLemmas.{all-map}

module _ {X : Type 0} (IsValid : X → Type 0) (key : X → ℤ) (row : X → Row) (db : Trees) (tree : ℕ) (xs : List X) (stored : Stores IsValid key row (db tree) xs) where
  abbrev pub source : Source db (inner tree end) X
  source = last_table db tree row key xs stored.rows_are stored.keyed (at_end db)

  abbrev on_table : Query → Query
  on_table q = record q { from = inner tree end; group = None; distinct = false }

  -- WHERE is the test p, the columns are those of show, and ORDER BY is the key
  pub shows_rows : (q : Query) (params : Row) (p : X → Bool) (show : X → Row)
      → ((x : X) → list_all (holds (params ∷ row x ∷ [])) q.filter ≡ p x)
      → ((x : X) → eval_all q.project (params ∷ row x ∷ []) ≡ show x)
      → ((a b : X) → output_cmp q (output q (params ∷ row a ∷ [])) (output q (params ∷ row b ∷ [])) ≡ int_cmp (key a) (key b))
      → (rows : List Row) → IsAnswer (on_table q) db params rows → rows ≡ page q params (map show (filter p xs))
  shows_rows q params p show tests shows order rows answer =
      sym (map-id rows) ∙ answer_by_keys (on_table q) db params source p tests (λ r. r) show shows refl refl order rows answer

-- the first row is that of the first value that passes
pub first_row : {X : Type 0} (show : X → Row) (p : X → Bool) (xs : List X) (rows : List Row) → rows ≡ map show (filter p xs) → slice_get rows 0 ≡ option_map show (find p xs)
first_row show p xs rows h = ap (λ l. slice_get l 0) h ∙ slice_get-map show (filter p xs) 0 ∙ ap (option_map show) (slice_get-filter p xs)

-- if no row was found, no value was; and likewise if one was
pub none_there : {X : Type 0} (show : X → Row) (o : Option X) → option_map show o ≡ None → o ≡ None
none_there show None h = refl
none_there show (Some x) h = absurd cc

pub some_there : {X : Type 0} (show : X → Row) (o : Option X) (row : Row) → option_map show o ≡ Some row → (x : X) × (o ≡ Some x) × (row ≡ show x)
some_there show None row h = absurd cc
some_there show (Some x) row h = (x, refl, cc)

pub valid_there : {X : Type 0} (IsValid : X → Type 0) (p : X → Bool) (xs : List X) (x : X) → AllByRecursion IsValid xs → find p xs ≡ Some x → IsValid x
valid_there IsValid p xs x all h = all_has IsValid xs x all (has_found p xs x h).0

-- the first row stores the first value that passes
pub found_first : {X : Type 0} (IsValid : X → Type 0) (show : X → Row) (p : X → Bool) (xs : List X) (rows : List Row) (row : Row) → rows ≡ map show (filter p xs) → slice_get rows 0 ≡ Some row
    → AllByRecursion IsValid xs → (x : X) × (find p xs ≡ Some x) × (row ≡ show x) × IsValid x
found_first IsValid show p xs rows row h first all =
    let it = some_there show _ row (sym (first_row show p xs rows h) ∙ first) in
    (it.0, it.1, it.2, valid_there IsValid p xs it.0 all it.1)

pub found_none : {X : Type 0} (show : X → Row) (p : X → Bool) (xs : List X) (rows : List Row) → rows ≡ map show (filter p xs) → slice_get rows 0 ≡ None → None ≡ find p xs
found_none show p xs rows h none = sym (none_there show _ (sym (first_row show p xs rows h) ∙ none))

pub valid_unnumbered : {X : Type 0} (IsValid : X → Type 0) (row : X → Row) (rows : List Row) (xs : List X) → StoresUnnumbered IsValid row rows xs → AllByRecursion IsValid xs
valid_unnumbered {X} IsValid row rows xs h = subst (AllByRecursion IsValid) h.values_are (all-map IsValid (λ (p : ℤ × X). p.1) h.numbered h.stores.valid)
