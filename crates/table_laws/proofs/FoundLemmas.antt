-- What is found after a row replaces those with its key.
use Rattle.std.proofs.Common.{◌≡◌, Bool, true, false, not, cond, List, [], ◌∷◌, ◌++◌, find, Some, refl}
use Rattle.sqlite_trees.specs.Tree.{IsAscending}
use Rattle.sqlite_trees.proofs.ListLemmas.{all-append}
use Rattle.sqlite_keyed.specs.Lists.{delete_where}
use Rattle.sqlite_keyed.proofs.ListLemmas.{all-filter}

module _ {X : Type 0} (p : X → Bool) (x : X) where
  abbrev put : List X → List X
  put xs = delete_where p xs ++ x ∷ []

  pub found_put : p x ≡ true → (xs : List X) → find p (put xs) ≡ Some x
  found_put own [] = rw own
  found_put own (y ∷ xs) = go (p y) refl (found_put own xs)
    where
      go : (b : Bool) → p y ≡ b → find p (put xs) ≡ Some x → find p (cond (not b) (y ∷ delete_where p xs) (delete_where p xs) ++ x ∷ []) ≡ Some x
      go true is more = more
      go false is more = rw is more

  pub found_other : (q : X → Bool) → ((y : X) → p y ≡ true → q y ≡ false) → q x ≡ false → (xs : List X) → find q (put xs) ≡ find q xs
  found_other q apart not_here [] = rw not_here
  found_other q apart not_here (y ∷ xs) = go (p y) (q y) refl refl (found_other q apart not_here xs)
    where
      go : (b c : Bool) → p y ≡ b → q y ≡ c → find q (put xs) ≡ find q xs
          → find q (cond (not b) (y ∷ delete_where p xs) (delete_where p xs) ++ x ∷ []) ≡ cond c (Some y) (find q xs)
      go true true is tested more = let never : q y ≡ false = apart y is in cc
      go true false is tested more = more
      go false true is tested more = rw tested
      go false false is tested more = rw tested more

-- no two rows have the same key, before and after the insert
module _ {X : Type 0} (same : X → X → Bool) (x : X) where
  abbrev pub AreApart : List X → Type 0
  AreApart = IsAscending (λ a b. same a b ≡ false)

  pub apart_put : (xs : List X) → AreApart xs → AreApart (delete_where (λ y. same y x) xs ++ x ∷ [])
  apart_put [] up = (tt, tt)
  apart_put (y ∷ xs) up = go (same y x) refl (apart_put xs up.1)
    where
      left : List X
      left = delete_where (λ z. same z x) xs

      go : (b : Bool) → same y x ≡ b → AreApart (left ++ x ∷ []) → AreApart (cond (not b) (y ∷ left) left ++ x ∷ [])
      go true is more = more
      go false is more = (all-append (λ z. same y z ≡ false) left (x ∷ []) (all-filter (λ z. same y z ≡ false) (λ z. not (same z x)) xs up.0) (is, tt), more)
