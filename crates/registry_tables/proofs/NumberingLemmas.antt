-- Rows that are numbered 1, 2, 3, and so on.
use Rattle.std.proofs.Common.{◌≡◌, ℕ, zero, suc, ◌+◌, ◌<◌, ℤ, pos, ◌+ℤ◌, int_lt, true, false, List, [], ◌∷◌, ◌++◌, map, filter, fold, drop, refl, ap, ◌∙◌, arith}
use Rattle.std.proofs.lemmas.Int.{ints}
use Rattle.std.proofs.lemmas.Bool.Decides.{nat_tests}
use Rattle.registry_rows.specs.declared.kept.KeptRow.{KeptRow}
use Rattle.registry_rows.specs.Rows.{is_after}
use Rattle.registry_tables.specs.Rows.{numbered_from}

module _ {X : Type 0} where
  pub numbered_values : (start : ℕ) (xs : List X) → map (λ (p : ℤ × X). p.1) (numbered_from start xs) ≡ xs
  numbered_values start [] = refl
  numbered_values start (x ∷ xs) = ap (λ l. x ∷ l) (numbered_values (suc start) xs)

  -- one above the greatest is the next number
  pub next_in_turn : (start : ℕ) (xs : List X) (x : X) → numbered_from start xs ++ (fold (λ (_ : ℤ) (p : ℤ × X). p.0 +ℤ pos 1) (pos start) (numbered_from start xs), x) ∷ [] ≡ numbered_from start (xs ++ x ∷ [])
  next_in_turn start [] x = refl
  next_in_turn start (y ∷ ys) x =
      let next : pos start +ℤ pos 1 ≡ pos (suc start) = grind (arith, ints) in
      let rest = numbered_from (suc start) ys in
      ap (λ n. (pos start, y) ∷ rest ++ (fold (λ (_ : ℤ) (p : ℤ × X). p.0 +ℤ pos 1) n rest, x) ∷ []) next ∙ ap (λ l. (pos start, y) ∷ l) (next_in_turn (suc start) ys x)

is_later : (low n : ℕ) → low < n → int_lt (pos low) (pos n) ≡ true
is_later low n lt = grind (arith, ints, nat_tests)

is_earlier : (low n : ℕ) → n < low + 1 → int_lt (pos low) (pos n) ≡ false
is_earlier low n lt = grind (arith, ints, nat_tests)

all_later : (low start : ℕ) (xs : List KeptRow) → low < start → filter (is_after low) (numbered_from start xs) ≡ numbered_from start xs
all_later low start [] lt = refl
all_later low start (x ∷ xs) lt = rw (is_later low start lt) (ap (λ l. (pos start, x) ∷ l) (all_later low (suc start) xs (omega (arith, lt))))

-- a row whose number is greater than n comes after the first n rows
after_first : (start n low : ℕ) (xs : List KeptRow) → low ≡ start + n → filter (is_after low) (numbered_from (suc start) xs) ≡ numbered_from (suc low) (drop n xs)
after_first start zero low xs is = let same : low ≡ start = omega (arith, is) in rw same (all_later start (suc start) xs (omega arith))
after_first start (suc n) low [] is = refl
after_first start (suc n) low (x ∷ xs) is = rw (is_earlier low (suc start) (omega (arith, is))) (after_first (suc start) n low xs (omega (arith, is)))

pub replies_past : (n : ℕ) (rows : List KeptRow) → map (λ (k : ℤ × KeptRow). k.1) (filter (is_after n) (numbered_from 1 rows)) ≡ drop n rows
replies_past n rows = ap (map (λ (k : ℤ × KeptRow). k.1)) (after_first 0 n n rows (omega arith)) ∙ numbered_values (suc n) (drop n rows)
