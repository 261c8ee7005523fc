-- SQL compares numbers and texts as the values are compared.
use Rattle.std.proofs.Common.{◌≡◌, ℕ, List, pos, int_eq, int_cmp, nat_eq, nat_cmp, arith, is_eq}
use Rattle.std.proofs.lemmas.Int.{ints}
use Rattle.std.specs.Cmp.Lexicographic.{slice_cmp}
use Rattle.std.specs.Str.{bytes_eq}
use Rattle.std.proofs.lemmas.Map.Text.{is_eq-slice_cmp}
use Rattle.std.proofs.lemmas.Bool.Decides.{nat_tests}

pub same_numbers : (m n : ℕ) → int_eq (pos m) (pos n) ≡ nat_eq m n
same_numbers m n = grind (arith, ints, nat_tests)

pub same_order : (m n : ℕ) → int_cmp (pos m) (pos n) ≡ nat_cmp m n
same_order m n = grind (arith, ints, nat_tests)

pub same_texts : (a b : List ℕ) → is_eq (slice_cmp nat_cmp a b) ≡ bytes_eq a b
same_texts = is_eq-slice_cmp
