-- Lists of maximal spans: their order, and the list after an edit inside it.
use Rattle.std.proofs.Common.{◌≡◌, ℕ, zero, suc, ◌+◌, ◌-◌, ◌<◌, ◌≤◌, List, [], ◌∷◌, ◌++◌, length, get_or, take, drop, subst, arith, Option, Some, None, inl, inr, length-take, get_or-take}
use Rattle.std.specs.List.{AllWithin}
use Rattle.std.specs.List.Sorted.{IsNonDecreasingBy}
use Rattle.std.proofs.lemmas.Bool.{cases_lt}
use Rattle.std.proofs.lemmas.List.{get_or_default}
use Rattle.std.specs.Option.{option_to_list}
use Rattle.usbnum_core.specs.declared.number.Span.{Span}
use Rattle.usbnum_core.specs.Spans.{IsSpread}
use Rattle.usbnum_core.specs.Parts.{IsRestBefore, IsRestAfter, spliced}

-- each span begins at the start or later
pub spread_first : (start : ℕ) (xs : List Span) → IsSpread start xs → (i : ℕ) (d : Span) → i < length xs → start ≤ (get_or xs i d).first
spread_first start [] s i d within = absurd (omega arith)
spread_first start (x ∷ xs) s zero d within = s.0
spread_first start (x ∷ xs) s (suc i) d within =
    let later = spread_first (x.last + 2) xs s.2 i d (omega arith) in
    let own = x.ordered in
    let first = s.0 in
    omega arith

-- and ends at 65,535 or earlier
pub spread_last : (start : ℕ) (xs : List Span) → IsSpread start xs → (i : ℕ) (d : Span) → i < length xs → (get_or xs i d).last ≤ 65535
spread_last start [] s i d within = absurd (omega arith)
spread_last start (x ∷ xs) s zero d within = s.1
spread_last start (x ∷ xs) s (suc i) d within = spread_last (x.last + 2) xs s.2 i d (omega arith)

-- a later span leaves a gap after the end of an earlier one
pub spread_apart : (start : ℕ) (xs : List Span) → IsSpread start xs → (i j : ℕ) (d : Span) → i < j → j < length xs → (get_or xs i d).last + 2 ≤ (get_or xs j d).first
spread_apart start [] s i j d lt within = absurd (omega arith)
spread_apart start (x ∷ xs) s i zero d lt within = absurd (omega arith)
spread_apart start (x ∷ xs) s zero (suc j) d lt within = spread_first (x.last + 2) xs s.2 j d (omega arith)
spread_apart start (x ∷ xs) s (suc i) (suc j) d lt within = spread_apart (x.last + 2) xs s.2 i j d (omega arith) (omega arith)

pub spread_take : (start n : ℕ) (xs : List Span) → IsSpread start xs → IsSpread start (take n xs)
spread_take start zero xs s = tt
spread_take start (suc n) [] s = tt
spread_take start (suc n) (x ∷ xs) s = (s.0, s.1, spread_take (x.last + 2) n xs s.2)

-- the rest of the list, from any number up to its first
pub spread_drop : (start n : ℕ) (xs : List Span) → IsSpread start xs → (low : ℕ) → AllWithin (λ x. low ≤ x.first) xs n (length xs) → IsSpread low (drop n xs)
spread_drop start zero [] s low from = tt
spread_drop start zero (x ∷ xs) s low from = (from 0 x (omega arith) (omega arith), s.1, s.2)
spread_drop start (suc n) [] s low from = tt
spread_drop start (suc n) (x ∷ xs) s low from = spread_drop (x.last + 2) n xs s.2 low (λ k d le lt. from (suc k) d (omega arith) (omega arith))

spread_lower : (start low : ℕ) (xs : List Span) → start ≤ low → IsSpread low xs → IsSpread start xs
spread_lower start low [] le s = tt
spread_lower start low (x ∷ xs) le s = (let first = s.0 in omega arith, s.1, s.2)

pub spread_join : (start low : ℕ) (xs ys : List Span) → start ≤ low → IsSpread start xs → AllWithin (λ x. x.last + 2 ≤ low) xs 0 (length xs) → IsSpread low ys → IsSpread start (xs ++ ys)
spread_join start low [] ys le s before t = spread_lower start low ys le t
spread_join start low (x ∷ xs) ys le s before t = (s.0, s.1, spread_join (x.last + 2) low xs ys (before 0 x (omega arith) (omega arith)) s.2 (λ k d le' lt. before (suc k) d (omega arith) (omega arith)) t)

-- the ends ascend, as a binary search requires
pub rising_last : (start : ℕ) (xs : List Span) → IsSpread start xs → IsNonDecreasingBy (λ (x : Span). x.last) xs
rising_last start xs s i j d le lt = elim (cases_lt i j) [
  | inl below ↦ let apart = spread_apart start xs s i j d below lt in let own = (get_or xs j d).ordered in omega arith
  | inr above ↦ let same : i ≡ j = omega arith in subst (λ q. (get_or xs i d).last ≤ (get_or xs q d).last) same (omega arith)
]

pub rising_first : (start : ℕ) (xs : List Span) → IsSpread start xs → IsNonDecreasingBy (λ (x : Span). x.first) xs
rising_first start xs s i j d le lt = elim (cases_lt i j) [
  | inl below ↦ let apart = spread_apart start xs s i j d below lt in let own = (get_or xs i d).ordered in omega arith
  | inr above ↦ let same : i ≡ j = omega arith in subst (λ q. (get_or xs i d).first ≤ (get_or xs q d).first) same (omega arith)
]

-- a span between those that end before it and those that begin after it, without touching them
pub spread_one : (xs : List Span) → IsSpread 1 xs → (low high : ℕ) (m : Span) → low ≤ length xs → 1 ≤ m.first → m.last ≤ 65535
    → AllWithin (λ x. x.last + 2 ≤ m.first) xs 0 low → AllWithin (λ x. m.last + 2 ≤ x.first) xs high (length xs)
    → IsSpread 1 (take low xs ++ m ∷ drop high xs)
spread_one xs s low high m in_range above below before after =
    spread_join 1 m.first (take low xs) (m ∷ drop high xs) above (spread_take 1 low xs s)
    (λ k d from lt. let short : k < low = omega (arith, length-take low xs) in rw (get_or-take low xs k d short) (before k d from short))
    (omega arith, below, spread_drop 1 high xs s (m.last + 2) after)

-- the rest after a span, and the parts above it
spread_rest_after : (xs : List Span) → IsSpread 1 xs → (high : ℕ) (span z : Span) (right : Option Span) (low : ℕ) → low ≤ span.last + 1 → z.last ≤ 65535
    → AllWithin (λ x. span.last < x.first) xs high (length xs) → AllWithin (λ x. z.last + 2 ≤ x.first) xs high (length xs)
    → IsRestAfter z span right → IsSpread low (option_to_list right ++ drop high xs)
spread_rest_after xs s high span z None low le within above apart rest = spread_drop 1 high xs s low (λ k d from lt. let more = above k d from lt in omega arith)
spread_rest_after xs s high span z (Some right) low le within above apart rest =
    let first = rest.1 in
    let last = rest.2 in
    (omega arith, omega arith, spread_drop 1 high xs s (right.last + 2) (λ k d from lt. let more = apart k d from lt in omega arith))

spread_rests : (xs : List Span) → IsSpread 1 xs → (high : ℕ) (span a z : Span) (left right : Option Span) → a.first ≤ span.last → z.last ≤ 65535 → span.last ≤ 65535
    → AllWithin (λ x. span.last < x.first) xs high (length xs) → AllWithin (λ x. z.last + 2 ≤ x.first) xs high (length xs)
    → IsRestBefore a span left → IsRestAfter z span right → IsSpread a.first (option_to_list left ++ (option_to_list right ++ drop high xs))
spread_rests xs s high span a z None right le within top above apart before after = spread_rest_after xs s high span z right a.first (omega arith) within above apart after
spread_rests xs s high span a z (Some left) right le within top above apart before after =
    let first = before.1 in
    let last = before.2 in
    let own = span.ordered in
    (omega arith, omega arith, spread_rest_after xs s high span z right (left.last + 2) (omega arith) within above apart after)

-- a list with a span cut from its parts from `low` on and before `high`
pub spread_cut : (xs : List Span) → IsSpread 1 xs → (low high : ℕ) → low < high → high ≤ length xs → (span d : Span) (left right : Option Span) → span.last ≤ 65535
    → (get_or xs low d).first ≤ span.last → AllWithin (λ x. span.last < x.first) xs high (length xs)
    → IsRestBefore (get_or xs low d) span left → IsRestAfter (get_or xs (high - 1) d) span right → IsSpread 1 (spliced xs low high left right)
spread_cut xs s low high some in_range span d left right top le above before after =
    let a = get_or xs low d in
    let z = get_or xs (high - 1) d in
    spread_join 1 a.first (take low xs) _ (spread_first 1 xs s low d (omega arith)) (spread_take 1 low xs s)
    (λ k e from lt. let short : k < low = omega (arith, length-take low xs) in rw (get_or-take low xs k e short, get_or_default xs low d e (omega arith)) (spread_apart 1 xs s k low e short (omega arith)))
    (spread_rests xs s high span a z left right le (spread_last 1 xs s (high - 1) d (omega arith)) top above
    (λ k e from lt. rw (get_or_default xs (high - 1) d e (omega arith)) (spread_apart 1 xs s (high - 1) k e (omega arith) lt)) before after)
