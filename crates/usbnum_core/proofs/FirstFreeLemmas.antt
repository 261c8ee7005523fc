-- The least number that is in no part and not in a list, found in one pass over both.
use Rattle.std.proofs.Common.{◌≡◌, ℕ, ◌<◌, ◌≤◌, true, false, List, length, get_or, subst, arith, inl, inr}
use Rattle.std.specs.Prelude.{nat_eq}
use Rattle.std.specs.List.{AllWithin}
use Rattle.std.specs.List.Sorted.{IsStrictlyIncreasing}
use Rattle.std.proofs.lemmas.Bool.{cases_lt, or_from, ne_eqb}
use Rattle.std.proofs.lemmas.List.{get_or_default}
use Rattle.std.proofs.lemmas.List.Folds.{list_any_none}
use Rattle.std.proofs.lemmas.List.Kept.{AllPairs-from_increasing}
use Rattle.usbnum_core.specs.declared.number.Span.{Span}
use Rattle.usbnum_core.specs.Spans.{IsSpread, is_in_either}
use Rattle.usbnum_core.proofs.SpreadLemmas.{rising_first}
use Rattle.usbnum_core.proofs.MemberLemmas.{none_between}

-- the parts before one place and the numbers before another are below the free number, and all numbers below it are
-- taken
pub record IsPassed (parts : List Span) (numbers : List ℕ) (part place free : ℕ) : Type 0 where
  pub part_within : part ≤ length parts
  pub place_within : place ≤ length numbers
  pub above : 1 ≤ free
  pub within : free ≤ 65536
  pub parts_below : AllWithin (λ x. x.last < free) parts 0 part
  pub numbers_below : AllWithin (λ x. x < free) numbers 0 place
  pub below_taken : (n : ℕ) → 1 ≤ n → n < free → is_in_either parts numbers n ≡ true

-- if the next part and the next number are above the free number, it is not taken
pub not_taken : (xs : List Span) (numbers : List ℕ) → IsSpread 1 xs → IsStrictlyIncreasing numbers → (part place free : ℕ)
    → AllWithin (λ x. x.last < free) xs 0 part → AllWithin (λ x. x < free) numbers 0 place
    → ((d : Span) → part < length xs → free < (get_or xs part d).first) → (place < length numbers → free < get_or numbers place 0) → is_in_either xs numbers free ≡ false
not_taken xs numbers spread rising part place free parts_below numbers_below next_part next_number =
    or_from _ _
    (none_between xs part part free (omega arith) parts_below
    (λ k e f lt. let rises = rising_first 1 xs spread part k e f lt in let next = next_part e (omega arith) in omega arith))
    (list_any_none (λ number. nat_eq number free) numbers (λ k e lt. elim (cases_lt k place) [
      | inl early ↦ let below = numbers_below k e (omega arith) early in ne_eqb (get_or numbers k e) free (λ same. omega arith)
      | inr late ↦ let rises = rising_numbers numbers rising place k e late lt in let next = next_number (omega arith) in
          let same0 : get_or numbers place 0 ≡ get_or numbers place e = get_or_default numbers place 0 e (omega arith) in
          ne_eqb (get_or numbers k e) free (λ same. omega arith)
    ]))
  where
    rising_numbers : (ns : List ℕ) → IsStrictlyIncreasing ns → (i j e : ℕ) → i ≤ j → j < length ns → get_or ns i e ≤ get_or ns j e
    rising_numbers ns up i j e le lt = elim (cases_lt i j) [
      | inl less ↦ let up' = AllPairs-from_increasing ns up i j e less lt in omega arith
      | inr more ↦ let same : i ≡ j = omega arith in subst (λ q. get_or ns i e ≤ get_or ns q e) same (omega arith)
    ]
