-- What a query ordered by some columns and then the rowid shows of values that do not contain the rowid.
use Rattle.std.proofs.Common.{◌≡◌, ℕ, ℤ, ◌<ℤ◌, Bool, true, false, cond, List, [], ◌∷◌, map, filter, None, refl, sym, ap, ◌∙◌, int_cmp, Ordering, Less, Equal, Greater, is_gt}
use Rattle.std.specs.List.{AllByRecursion, list_all}
use Rattle.std.specs.Ordering.{ordering_then}
use Rattle.sqlite.specs.declared.types.Value.TheVariants.{Int}
use Rattle.sqlite.specs.Order.{Row}
use Rattle.sqlite.specs.Tree.{Trees}
use Rattle.sqlite.specs.Term.{holds, eval_all}
use Rattle.sqlite.specs.Query.{Query, inner, end, output, output_cmp, page, IsAnswer}
use Rattle.sqlite_keyed.specs.Lists.{insert_sorted, sort_by}
use Rattle.sqlite_keyed.specs.Keyed.{IsKeyedBy}
use Rattle.sqlite_keyed.proofs.ListLemmas.{filter-map, map-map, ascending-filter}
use Rattle.sqlite_keyed.proofs.KeyedLemmas.{Less-from_lt}
use Rattle.sqlite_typed.proofs.AnswerLemmas.{answer_sorted, no_tie, no_tie_after}
use Rattle.std.proofs.lemmas.List.{map-id}
use Rattle.table_laws.specs.Stored.{StoresUnnumbered}
use Rattle.table_laws.proofs.ReadLemmas.{source}

module _ {X : Type 0} (cmp : X → X → Ordering) where
  -- this order, with ties in the order of insertion
  abbrev pub or_as_they_came : ℤ × X → ℤ × X → Ordering
  or_as_they_came a b = ordering_then (cmp a.1 b.1) (int_cmp a.0 b.0)

  abbrev second : ℤ × X → X
  second p = p.1

  abbrev first : ℤ × X → ℤ
  first p = p.0

  module _ (P : ℤ × X → Type 0) where
    all_insert : (new : ℤ × X) (xs : List (ℤ × X)) → P new → AllByRecursion P xs → AllByRecursion P (insert_sorted or_as_they_came new xs)
    all_insert new [] h all = (h, tt)
    all_insert new (x ∷ xs) h all =
        elim (is_gt (or_as_they_came new x)) as (λ b. AllByRecursion P (cond b (x ∷ insert_sorted or_as_they_came new xs) (new ∷ x ∷ xs))) [ true ↦ (all.0, all_insert new xs h all.1) | false ↦ (h, all) ]

    all_sort : (xs : List (ℤ × X)) → AllByRecursion P xs → AllByRecursion P (sort_by or_as_they_came xs)
    all_sort [] all = tt
    all_sort (x ∷ xs) all = all_insert x (sort_by or_as_they_came xs) all.0 (all_sort xs all.1)

  before_tie : (o : Ordering) → is_gt (ordering_then o Less) ≡ is_gt o
  before_tie Less = refl
  before_tie Equal = refl
  before_tie Greater = refl

  insert_values : (new : ℤ × X) (xs : List (ℤ × X)) → AllByRecursion (λ (y : ℤ × X). new.0 <ℤ y.0) xs → map second (insert_sorted or_as_they_came new xs) ≡ insert_sorted cmp new.1 (map second xs)
  insert_values new [] above = refl
  insert_values new (x ∷ xs) above =
      rw (Less-from_lt new.0 x.0 above.0, before_tie (cmp new.1 x.1))
      (elim (is_gt (cmp new.1 x.1)) as (λ b. map second (cond b (x ∷ insert_sorted or_as_they_came new xs) (new ∷ x ∷ xs)) ≡ cond b (x.1 ∷ insert_sorted cmp new.1 (map second xs)) (new.1 ∷ x.1 ∷ map second xs))
      [ true ↦ ap (λ l. x.1 ∷ l) (insert_values new xs above.1) | false ↦ refl ])

  -- the sort is stable, so the rowids make no difference
  pub sort_values : (xs : List (ℤ × X)) → IsKeyedBy first xs → map second (sort_by or_as_they_came xs) ≡ sort_by cmp (map second xs)
  sort_values [] up = refl
  sort_values (x ∷ xs) up =
      insert_values x (sort_by or_as_they_came xs) (all_sort (λ (y : ℤ × X). x.0 <ℤ y.0) xs up.0) ∙ ap (insert_sorted cmp x.1) (sort_values xs up.1)

module _ {X : Type 0} (IsValid : X → Type 0) (row : X → Row) (db : Trees) (tree : ℕ) (xs : List X) (h : StoresUnnumbered IsValid row (db tree) xs)
    (q : Query) (params : Row) (p : X → Bool) (show : X → Row)
    (tests : (id : ℤ) (x : X) → list_all (holds (params ∷ (Int id ∷ row x) ∷ [])) q.filter ≡ p x)
    (shows : (id : ℤ) (x : X) → eval_all q.project (params ∷ (Int id ∷ row x) ∷ []) ≡ show x) where
  -- ORDER BY the columns of this order, and then rowid
  pub shows_sorted : (cmp : X → X → Ordering)
      → ((a b : ℤ × X) → output_cmp q (output q (params ∷ (Int a.0 ∷ row a.1) ∷ [])) (output q (params ∷ (Int b.0 ∷ row b.1) ∷ [])) ≡ or_as_they_came cmp a b)
      → (rows : List Row) → IsAnswer (record q { from = inner tree end; group = None; distinct = false }) db params rows
      → rows ≡ page q params (map show (sort_by cmp (filter p xs)))
  shows_sorted cmp order rows answer =
      let all = h.numbered in
      let pick = λ (y : ℤ × X). p y.1 in
      let kept = filter pick all in
      let src = source (λ (y : ℤ × X). IsValid y.1) (λ (y : ℤ × X). y.0) (λ (y : ℤ × X). Int y.0 ∷ row y.1) db tree all h.stores in
      let sorted = answer_sorted (record q { from = inner tree end; group = None; distinct = false }) db params src pick (λ y. tests y.0 y.1) (λ r. r) (λ (y : ℤ × X). show y.1) (λ y. shows y.0 y.1) refl refl
      (or_as_they_came cmp) (λ a b less. no_tie_after (cmp a.1 b.1) (no_tie less)) order rows answer in
      let values : map (λ (y : ℤ × X). show y.1) (sort_by (or_as_they_came cmp) kept) ≡ map show (sort_by cmp (filter p xs)) =
      sym (map-map show (second cmp) (sort_by (or_as_they_came cmp) kept))
      ∙ ap (map show) (sort_values cmp kept (ascending-filter (λ (a b : ℤ × X). a.0 <ℤ b.0) pick all h.stores.keyed)
      ∙ ap (sort_by cmp) (sym (filter-map p (second cmp) all) ∙ ap (filter p) h.values_are)) in
      sym (map-id rows) ∙ sorted ∙ ap (page q params) values
