-- What is found under a key after an insert.
use Rattle.std.proofs.Common.{◌≡◌, ℤ, Bool, true, false, cond, if◌then◌else◌, List, [], ◌∷◌, ◌++◌, find, Option, Some, refl, sym, ap, subst, ◌∙◌, int_cmp, Ordering, Less, Equal, Greater, arith}
use Rattle.std.specs.Ordering.{match_ordering}
use Rattle.std.proofs.lemmas.Int.{ints}
use Rattle.sqlite_keyed.specs.Keyed.{insert_by}
use Rattle.sqlite_keyed.specs.Lists.{delete_where}
use Rattle.table_laws.proofs.FoundLemmas.{found_put, found_other}
use Rattle.registry_tables.proofs.SortLemmas.{found_swapped}

-- for values that do not contain their rowid
module _ {K X : Type 0} (key : X → K) (test : K → X → Bool) (own : (x : X) → test (key x) x ≡ true) (tells : (k : K) (x : X) → test k x ≡ true → k ≡ key x) where
  other_key : (k : K) (x y : X) → test k x ≡ false → test (key x) y ≡ true → test k y ≡ false
  other_key k x y apart here = go (test k y) refl
    where
      go : (b : Bool) → test k y ≡ b → test k y ≡ false
      go false is = is
      go true is =
          let same : k ≡ key x = tells k y is ∙ sym (tells (key x) y here) in
          absurd (let e : test k x ≡ true = ap (λ l. test l x) same ∙ own x in cc)

  pub found_after : (x : X) (xs : List X) (k : K) → find (test k) (delete_where (λ y. test (key x) y) xs ++ x ∷ []) ≡ (if test k x then Some x else find (test k) xs)
  found_after x xs k = go (test k x) refl
    where
      go : (b : Bool) → test k x ≡ b → find (test k) (delete_where (λ y. test (key x) y) xs ++ x ∷ []) ≡ cond b (Some x) (find (test k) xs)
      go true is = subst (λ l. find (test l) (delete_where (λ y. test (key x) y) xs ++ x ∷ []) ≡ Some x) (sym (tells k x is)) (found_put (test (key x)) x (own x) xs)
      go false is = found_other (test (key x)) x (test k) (λ y h. other_key k x y is h) is xs

-- for values whose key is a number
module _ {K X : Type 0} (key : X → ℤ) (test : K → X → Bool) (tells : (k : K) (x y : X) → test k x ≡ true → test k y ≡ true → key x ≡ key y)
    (level : (k : K) (x y : X) → key x ≡ key y → test k x ≡ test k y) where
  found_once : (a : Bool) (x y : X) (o : Option X) → cond a (Some x) o ≡ cond a (Some x) (cond a (Some y) o)
  found_once true x y o = refl
  found_once false x y o = refl

  pub found_among : (x : X) (xs : List X) (k : K) → find (test k) (insert_by key xs x) ≡ (if test k x then Some x else find (test k) xs)
  found_among x [] k = refl
  found_among x (y ∷ ys) k = go (int_cmp (key y) (key x)) refl (found_among x ys k)
    where
      go : (o : Ordering) → int_cmp (key y) (key x) ≡ o → find (test k) (insert_by key ys x) ≡ cond (test k x) (Some x) (find (test k) ys)
          → find (test k) (match_ordering o (y ∷ insert_by key ys x) (x ∷ ys) (x ∷ y ∷ ys)) ≡ cond (test k x) (Some x) (cond (test k y) (Some y) (find (test k) ys))
      go Less is more =
          rw more (found_swapped (test k y) (test k x) y x (find (test k) ys) (λ a b. (let same : key y ≡ key x = tells k y x a b in absurd (grind (arith, ints)))))
      go Equal is more =
          let same : key y ≡ key x = grind (arith, ints) in
          rw (level k y x same) (found_once (test k x) x y (find (test k) ys))
      go Greater is more = refl
