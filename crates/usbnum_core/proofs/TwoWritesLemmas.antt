-- Two elements written at a place in a list and after it.
use Rattle.std.proofs.Common.{◌≡◌, ℕ, zero, suc, ◌+◌, ◌-◌, ◌<◌, ◌≤◌, List, [], ◌∷◌, ◌++◌, length, set, take, drop, refl, ap, subst, arith}
use Rattle.std.specs.List.{insert}

put_two : {X : Type 0} (xs : List X) (low : ℕ) (l r : X) → low < length xs → set (insert xs (suc low) r) low l ≡ take low xs ++ l ∷ r ∷ drop (suc low) xs
put_two [] low l r within = absurd (omega arith)
put_two (x ∷ xs) zero l r within = refl
put_two (x ∷ xs) (suc low) l r within = ap (λ ys. x ∷ ys) (put_two xs low l r (omega arith))

set_first : {X : Type 0} (xs : List X) (h : ℕ) (r : X) → h < length xs → set (drop h xs) 0 r ≡ r ∷ drop (suc h) xs
set_first [] h r within = absurd (omega arith)
set_first (x ∷ xs) zero r within = refl
set_first (x ∷ xs) (suc h) r within = set_first xs h r (omega arith)

put_second : {X : Type 0} (xs : List X) (low h : ℕ) (l r : X) → low ≤ h → h < length xs → set (take low xs ++ l ∷ drop h xs) (suc low) r ≡ take low xs ++ l ∷ r ∷ drop (suc h) xs
put_second [] low h l r le within = absurd (omega arith)
put_second (x ∷ xs) zero h l r le within = ap (λ ys. l ∷ ys) (set_first (x ∷ xs) h r within)
put_second (x ∷ xs) (suc low) zero l r le within = absurd (omega arith)
put_second (x ∷ xs) (suc low) (suc h) l r le within = ap (λ ys. x ∷ ys) (put_second xs low h l r (omega arith) (omega arith))

-- two elements replace one
pub put_two_at : {X : Type 0} (xs : List X) (low high : ℕ) (l r : X) → low + 1 ≡ high → high ≤ length xs → set (insert xs high r) low l ≡ take low xs ++ l ∷ r ∷ drop high xs
put_two_at xs low high l r e within =
    let next : suc low ≡ high = omega arith in
    subst (λ h. set (insert xs h r) low l ≡ take low xs ++ l ∷ r ∷ drop h xs) next (put_two xs low l r (omega arith))

-- two elements replace two or more
pub put_second_at : {X : Type 0} (xs : List X) (low high : ℕ) (l r : X) → low < high → high ≤ length xs → set (take low xs ++ l ∷ drop (high - 1) xs) (low + 1) r ≡ take low xs ++ l ∷ r ∷ drop high xs
put_second_at xs low high l r lt within =
    let next : suc (high - 1) ≡ high = omega arith in
    let one : suc low ≡ low + 1 = omega arith in
    subst (λ i. set (take low xs ++ l ∷ drop (high - 1) xs) i r ≡ take low xs ++ l ∷ r ∷ drop high xs) one
    (subst (λ h. set (take low xs ++ l ∷ drop (high - 1) xs) (suc low) r ≡ take low xs ++ l ∷ r ∷ drop h xs) next (put_second xs low (high - 1) l r (omega arith) (omega arith)))
