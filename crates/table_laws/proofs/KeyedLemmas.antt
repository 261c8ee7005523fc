-- Inserting a value in the order of a key.
use Rattle.std.proofs.Common.{◌≡◌, ℤ, true, false, not, List, [], ◌∷◌, fold, refl, ap, ◌∙◌, arith, int_cmp, int_eq, cond, Ordering, Less, Equal, Greater}
use Rattle.std.specs.List.{AllByRecursion}
use Rattle.std.specs.Ordering.{match_ordering}
use Rattle.std.proofs.lemmas.Int.{ints}
use Rattle.sqlite_keyed.specs.Keyed.{IsKeyedBy, insert_by}
use Rattle.sqlite_keyed.specs.Lists.{without_key}
use Rattle.sqlite_keyed.proofs.ListLemmas.{all_weaker, filter_all}
use Rattle.sqlite_keyed.proofs.KeyedLemmas.{IsKeyedBy-delete_where}

module _ {X : Type 0} (key : X → ℤ) where
  -- a key below all keys of the list removes nothing
  above_kept : (k : ℤ) (xs : List X) → AllByRecursion (λ y. int_cmp k (key y) ≡ Less) xs → without_key key xs k ≡ xs
  above_kept k xs above = filter_all (λ y. not (int_eq (key y) k)) xs (all_weaker _ (λ y. not (int_eq (key y) k) ≡ true) (λ y h. grind (arith, ints)) xs above)

  -- a value below all others goes to the front
  first_in : (xs : List X) (new : X) → AllByRecursion (λ y. int_cmp (key y) (key new) ≡ Greater) xs → insert_by key xs new ≡ new ∷ xs
  first_in [] new above = refl
  first_in (x ∷ xs) new above = rw above.0 refl

  -- removing the key of a new row first makes no difference
  pub insert_by_without_key : (xs : List X) (new : X) → IsKeyedBy key xs → insert_by key (without_key key xs (key new)) new ≡ insert_by key xs new
  insert_by_without_key [] new up = refl
  insert_by_without_key (x ∷ xs) new up = go (int_cmp (key x) (key new)) refl (insert_by_without_key xs new up.1)
    where
      rest : List X
      rest = without_key key xs (key new)

      all_above : int_cmp (key new) (key x) ≡ Less → AllByRecursion (λ y. int_cmp (key new) (key y) ≡ Less) xs
      all_above first = all_weaker _ (λ y. int_cmp (key new) (key y) ≡ Less) (λ y h. grind (arith, ints)) xs up.0

      go : (o : Ordering) → int_cmp (key x) (key new) ≡ o → insert_by key rest new ≡ insert_by key xs new
          → insert_by key (cond (not (int_eq (key x) (key new))) (x ∷ rest) rest) new ≡ match_ordering o (x ∷ insert_by key xs new) (new ∷ xs) (new ∷ x ∷ xs)
      go Less is more =
          let apart : int_eq (key x) (key new) ≡ false = grind (arith, ints) in
          rw (apart, is) (ap (λ l. x ∷ l) more)
      go Equal is more =
          let same : int_eq (key x) (key new) ≡ true = grind (arith, ints) in
          let kept : rest ≡ xs = above_kept (key new) xs (all_weaker _ (λ y. int_cmp (key new) (key y) ≡ Less) (λ y h. grind (arith, ints)) xs up.0) in
          rw (same, kept) (first_in xs new (all_weaker _ (λ y. int_cmp (key y) (key new) ≡ Greater) (λ y h. grind (arith, ints)) xs up.0))
      go Greater is more =
          let apart : int_eq (key x) (key new) ≡ false = grind (arith, ints) in
          let kept : rest ≡ xs = above_kept (key new) xs (all_above (grind (arith, ints))) in
          rw (apart, is, kept) refl

  -- nor does removing it several times
  pub insert_by_without_keys : (ids : List ℤ) (xs : List X) (new : X) → AllByRecursion (λ id. id ≡ key new) ids → IsKeyedBy key xs
      → insert_by key (fold (without_key key) xs ids) new ≡ insert_by key xs new
  insert_by_without_keys [] xs new same up = refl
  insert_by_without_keys (id ∷ ids) xs new same up =
      insert_by_without_keys ids (without_key key xs id) new same.1 (IsKeyedBy-delete_where key (λ x. int_eq (key x) id) xs up)
      ∙ ap (λ k. insert_by key (without_key key xs k) new) same.0 ∙ insert_by_without_key xs new up
