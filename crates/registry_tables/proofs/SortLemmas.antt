-- Sorting values with distinct keys.
use Rattle.std.proofs.Common.{◌≡◌, ℕ, zero, suc, ◌+◌, pos, ◌<ℤ◌, Bool, true, false, cond, ◌||◌, List, [], ◌∷◌, map, find, Option, Some, refl, sym, ap, ◌∙◌, Ordering, Less, Equal, Greater, is_gt, is_eq, arith}
use Rattle.std.specs.Ordering.{ordering_reverse}
use Rattle.std.specs.List.{AllByRecursion, list_any}
use Rattle.std.specs.List.Sorted.{IsStrictlySortedBy, IsStrictlyIncreasing}
use Rattle.std.specs.Cmp.{IsTotalOrder}
use Rattle.std.proofs.lemmas.Int.{ints}
use Rattle.sqlite_trees.specs.Tree.{IsAscending}
use Rattle.sqlite_keyed.specs.Lists.{insert_sorted, sort_by}
use Rattle.sqlite_keyed.proofs.ListLemmas.{all_weaker}
use Rattle.registry_rows.proofs.StepLemmas.{valid_sorted}

-- ---- what holds for each value

module _ {X : Type 0} (cmp : X → X → Ordering) (P : X → Type 0) where
  all_inserted : (new : X) (xs : List X) → P new → AllByRecursion P xs → AllByRecursion P (insert_sorted cmp new xs)
  all_inserted new [] h all = (h, tt)
  all_inserted new (x ∷ xs) h all =
      elim (is_gt (cmp new x)) as (λ b. AllByRecursion P (cond b (x ∷ insert_sorted cmp new xs) (new ∷ x ∷ xs))) [ true ↦ (all.0, all_inserted new xs h all.1) | false ↦ (h, all) ]

-- ---- the order

module _ {X : Type 0} (cmp : X → X → Ordering) (total : IsTotalOrder cmp) (same : X → X → Bool) (told : (a b : X) → same a b ≡ false → is_eq (cmp a b) ≡ false) where
  turned : (a b : X) → cmp a b ≡ Greater → cmp b a ≡ Less
  turned a b is = total.antisymm b a ∙ ap ordering_reverse is

  inserted : (new : X) (xs : List X) → AllByRecursion (λ y. same new y ≡ false) xs → IsStrictlySortedBy cmp xs → IsStrictlySortedBy cmp (insert_sorted cmp new xs)
  unfolding IsStrictlySortedBy
  inserted new [] apart up = (tt, tt)
  inserted new (x ∷ xs) apart up = go (cmp new x) refl (inserted new xs apart.1 up.1)
    where
      go : (o : Ordering) → cmp new x ≡ o → IsStrictlySortedBy cmp (insert_sorted cmp new xs) → IsStrictlySortedBy cmp (cond (is_gt o) (x ∷ insert_sorted cmp new xs) (new ∷ x ∷ xs))
      go Greater is more = (all_inserted cmp (λ y. cmp x y ≡ Less) new xs (turned new x is) up.0, more)
      go Equal is more = absurd (let never = ap is_eq (sym is) ∙ told new x apart.0 in cc)
      go Less is more = ((is, all_weaker (λ y. cmp x y ≡ Less) (λ y. cmp new y ≡ Less) (λ y above. total.trans new x y is above) xs up.0), up)

  -- values with distinct keys ascend when sorted
  pub sorted_up : (xs : List X) → IsAscending (λ a b. same a b ≡ false) xs → IsStrictlySortedBy cmp (sort_by cmp xs)
  unfolding IsStrictlySortedBy
  sorted_up [] once = tt
  sorted_up (x ∷ xs) once = inserted x (sort_by cmp xs) (valid_sorted (λ y. same x y ≡ false) cmp xs once.0) (sorted_up xs once.1)

-- ---- lookups

pub or_swapped : (a b rest : Bool) → (a || (b || rest)) ≡ (b || (a || rest))
or_swapped true true rest = refl
or_swapped true false rest = refl
or_swapped false b rest = refl

-- of two tests at most one passes, so either may come first
pub found_swapped : {X : Type 0} (a b : Bool) (x y : X) (o : Option X) → (a ≡ true → b ≡ true → ⊥) → cond a (Some x) (cond b (Some y) o) ≡ cond b (Some y) (cond a (Some x) o)
found_swapped true true x y o never = absurd (never refl refl)
found_swapped true false x y o never = refl
found_swapped false b x y o never = refl

module _ {X : Type 0} (cmp : X → X → Ordering) (test : X → Bool) where
  any_inserted : (new : X) (xs : List X) → list_any test (insert_sorted cmp new xs) ≡ (test new || list_any test xs)
  any_inserted new [] = refl
  any_inserted new (x ∷ xs) =
      elim (is_gt (cmp new x)) as (λ b. list_any test (cond b (x ∷ insert_sorted cmp new xs) (new ∷ x ∷ xs)) ≡ (test new || (test x || list_any test xs)))
      [ true ↦ ap (λ b. test x || b) (any_inserted new xs) ∙ or_swapped (test x) (test new) (list_any test xs) | false ↦ refl ]

  -- a sort keeps whether any value passes
  pub any_sorted : (xs : List X) → list_any test (sort_by cmp xs) ≡ list_any test xs
  any_sorted [] = refl
  any_sorted (x ∷ xs) = any_inserted x (sort_by cmp xs) ∙ ap (λ b. test x || b) (any_sorted xs)

  module _ (same : X → X → Bool) (one : (a b : X) → test a ≡ true → test b ≡ true → same a b ≡ true) where
    find_inserted : (new : X) (xs : List X) → AllByRecursion (λ y. same new y ≡ false) xs → find test (insert_sorted cmp new xs) ≡ cond (test new) (Some new) (find test xs)
    find_inserted new [] apart = refl
    find_inserted new (x ∷ xs) apart =
        elim (is_gt (cmp new x)) as (λ b. find test (cond b (x ∷ insert_sorted cmp new xs) (new ∷ x ∷ xs)) ≡ cond (test new) (Some new) (cond (test x) (Some x) (find test xs)))
        [ true ↦ ap (λ o. cond (test x) (Some x) o) (find_inserted new xs apart.1) ∙ found_swapped (test x) (test new) x new (find test xs) (λ a b. (let both = one new x b a in absurd cc)) | false ↦ refl ]

    -- a sort keeps the value found, if at most one passes
    pub find_sorted : (xs : List X) → IsAscending (λ a b. same a b ≡ false) xs → find test (sort_by cmp xs) ≡ find test xs
    find_sorted [] once = refl
    find_sorted (x ∷ xs) once = find_inserted x (sort_by cmp xs) (valid_sorted (λ y. same x y ≡ false) cmp xs once.0) ∙ ap (λ o. cond (test x) (Some x) o) (find_sorted xs once.1)

-- ---- by a key

-- values that ascend by a key have ascending keys
pub keys_up : {X K : Type 0} (cmp : K → K → Ordering) (key : X → K) (xs : List X) → IsStrictlySortedBy (λ a b. cmp (key a) (key b)) xs → IsStrictlySortedBy cmp (map key xs)
unfolding IsStrictlySortedBy
keys_up cmp key [] up = tt
keys_up {X} cmp key (x ∷ xs) up = (all xs up.0, keys_up cmp key xs up.1)
  where
    all : (ys : List X) → AllByRecursion (λ y. cmp (key x) (key y) ≡ Less) ys → AllByRecursion (λ k. cmp (key x) k ≡ Less) (map key ys)
    all [] h = tt
    all (y ∷ ys) h = (h.0, all ys h.1)

-- the same for numbers that are keys of a table
pub numbers_up : {X : Type 0} (key : X → ℕ) (xs : List X) → IsAscending (λ a b. pos (key a) <ℤ pos (key b)) xs → IsStrictlyIncreasing (map key xs)
numbers_up key [] up k within = absurd (omega (arith, within))
numbers_up key (x ∷ []) up k within = absurd (omega (arith, within))
numbers_up key (x ∷ y ∷ xs) up zero within = grind (arith, ints, up.0.0)
numbers_up key (x ∷ y ∷ xs) up (suc k) within =
    let more = numbers_up key (y ∷ xs) up.1 k (omega (arith, within)) in
    let next : suc k + 1 ≡ suc (k + 1) = omega arith in
    rw next more
