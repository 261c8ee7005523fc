-- What a query shows in descending order of the keys.
use Rattle.std.proofs.Common.{◌≡◌, ℕ, ℤ, ◌<ℤ◌, Bool, false, List, [], ◌∷◌, ◌++◌, map, filter, reverse, refl, sym, ap, ◌∙◌, int_cmp, is_eq, Ordering, Less, Greater, None}
use Rattle.std.specs.List.{AllByRecursion, list_all}
use Rattle.std.specs.Ordering.{ordering_reverse}
use Rattle.std.proofs.lemmas.List.{map-id, reverse-append}
use Rattle.std.proofs.lemmas.Cmp.{int_cmp_total}
use Rattle.sqlite.specs.Order.{Row}
use Rattle.sqlite.specs.Tree.{Trees}
use Rattle.sqlite.specs.Term.{holds, eval_all}
use Rattle.sqlite.specs.Query.{Query, inner, end, output, output_cmp, page, IsAnswer}
use Rattle.sqlite_trees.proofs.ListLemmas.{all-append}
use Rattle.sqlite_keyed.specs.Keyed.{IsKeyedBy}
use Rattle.sqlite_keyed.specs.Lists.{insert_sorted, sort_by}
use Rattle.sqlite_keyed.proofs.KeyedLemmas.{Less-from_lt}
use Rattle.sqlite_keyed.proofs.ListLemmas.{ascending-filter}
use Rattle.sqlite_typed.proofs.AnswerLemmas.{IsNoTie, answer_sorted}
use Rattle.table_laws.specs.Stored.{Stores}
use Rattle.table_laws.proofs.ReadLemmas.{source}

module _ {X : Type 0} (key : X → ℤ) where
  abbrev falling : X → X → Ordering
  falling a b = int_cmp (key b) (key a)

  turned : (a b : X) → int_cmp (key a) (key b) ≡ Less → falling a b ≡ Greater
  turned a b less = int_cmp_total.antisymm (key b) (key a) ∙ ap ordering_reverse less

  pub all_reverse : (P : X → Type 0) (xs : List X) → AllByRecursion P xs → AllByRecursion P (reverse xs)
  all_reverse P [] all = tt
  all_reverse P (x ∷ xs) all = rw (reverse-append (x ∷ []) xs) (all-append P (reverse xs) (x ∷ []) (all_reverse P xs all.1) (all.0, tt))

  insert_falling : (new : X) (xs : List X) → AllByRecursion (λ y. key new <ℤ key y) xs → insert_sorted falling new xs ≡ xs ++ new ∷ []
  insert_falling new [] above = refl
  insert_falling new (x ∷ xs) above = rw (turned new x (Less-from_lt (key new) (key x) above.0)) (ap (λ l. x ∷ l) (insert_falling new xs above.1))

  pub sort_falling : (xs : List X) → IsKeyedBy key xs → sort_by falling xs ≡ reverse xs
  sort_falling [] up = refl
  sort_falling (x ∷ xs) up =
      ap (insert_sorted falling x) (sort_falling xs up.1) ∙ insert_falling x (reverse xs) (all_reverse (λ y. key x <ℤ key y) xs up.0) ∙ sym (reverse-append (x ∷ []) xs)

  no_tie_turned : (a b : X) → int_cmp (key a) (key b) ≡ Less → IsNoTie (falling a b)
  no_tie_turned a b less = record { apart = ap is_eq (turned a b less) }

module _ {X : Type 0} (IsValid : X → Type 0) (key : X → ℤ) (row : X → Row) (db : Trees) (tree : ℕ) (xs : List X) (stored : Stores IsValid key row (db tree) xs) where
  -- ORDER BY the key DESC
  pub shows_falling : (q : Query) (params : Row) (p : X → Bool) (show : X → Row)
      → ((x : X) → list_all (holds (params ∷ row x ∷ [])) q.filter ≡ p x)
      → ((x : X) → eval_all q.project (params ∷ row x ∷ []) ≡ show x)
      → ((a b : X) → output_cmp q (output q (params ∷ row a ∷ [])) (output q (params ∷ row b ∷ [])) ≡ int_cmp (key b) (key a))
      → (rows : List Row) → IsAnswer (record q { from = inner tree end; group = None; distinct = false }) db params rows → rows ≡ page q params (map show (reverse (filter p xs)))
  shows_falling q params p show tests shows order rows answer =
      let sorted = answer_sorted (record q { from = inner tree end; group = None; distinct = false }) db params (source IsValid key row db tree xs stored) p tests (λ r. r) show shows refl refl
      (falling key) (no_tie_turned key) order rows answer in
      sym (map-id rows) ∙ sorted ∙ ap (λ l. page q params (map show l)) (sort_falling key (filter p xs) (ascending-filter (λ (a b : X). key a <ℤ key b) p xs stored.keyed))
