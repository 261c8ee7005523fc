-- The count of numbers in maximal spans is the sum of their widths, which is at most 65,536.
use Rattle.std.proofs.Common.{◌≡◌, ℕ, zero, suc, ◌+◌, ◌-◌, ◌<◌, ◌≤◌, Bool, true, false, List, [], ◌∷◌, get_or, refl, sym, ◌∙◌, arith, inl, inr}
use Rattle.std.specs.Prelude.{◌||◌}
use Rattle.std.specs.List.{sum_by}
use Rattle.std.proofs.lemmas.Bool.{cases_lt, cases_Bool}
use Rattle.std.proofs.lemmas.List.Sums.{sum_by-cons}
use Rattle.std.proofs.lemmas.List.Folds.{list_any_none}
use Rattle.usbnum_core.specs.declared.number.Span.{Span}
use Rattle.usbnum_core.specs.Spans.{span_has, spans_have, IsSpread, count_to}
use Rattle.usbnum_core.proofs.SpreadLemmas.{spread_first}
use Rattle.usbnum_core.proofs.MemberLemmas.{has, lacks_below, lacks_above, within_of}

-- the count of numbers in the span
abbrev pub width : Span → ℕ
width span = span.last - span.first + 1

count_none : (p : ℕ → Bool) → ((n : ℕ) → p n ≡ false) → (limit : ℕ) → count_to p limit ≡ 0
unfolding count_to
count_none p fails zero = refl
count_none p fails (suc n) = rw (fails (suc n)) (count_none p fails n)

count_or : (p q : ℕ → Bool) → ((n : ℕ) → p n ≡ true → q n ≡ false) → (limit : ℕ) → count_to (λ n. p n || q n) limit ≡ count_to p limit + count_to q limit
unfolding count_to
count_or p q apart zero = refl
count_or p q apart (suc n) =
    let later = count_or p q apart n in
    elim (cases_Bool (p (suc n))) [
      | inl e ↦ rw (e, apart (suc n) e) (omega arith)
      | inr e ↦ elim (cases_Bool (q (suc n))) [
        | inl f ↦ rw (e, f) (omega arith)
        | inr f ↦ rw (e, f) (omega arith)
      ]
    ]

count_before : (x : Span) (limit : ℕ) → limit < x.first → count_to (span_has x) limit ≡ 0
unfolding count_to
count_before x zero lt = refl
count_before x (suc n) lt = rw (lacks_below x (suc n) lt) (count_before x n (omega arith))

count_within : (x : Span) (limit : ℕ) → 1 ≤ x.first → x.first ≤ limit + 1 → limit ≤ x.last → count_to (span_has x) limit ≡ limit + 1 - x.first
unfolding count_to
count_within x zero above from upto = omega arith
count_within x (suc n) above from upto = elim (cases_lt (suc n) x.first) [
  | inl before ↦ rw (lacks_below x (suc n) before, count_before x n (omega arith)) (omega arith)
  | inr at ↦ rw (has x (suc n) at upto, count_within x n above (omega arith) (omega arith)) (omega arith)
]

count_past : (x : Span) (limit : ℕ) → 1 ≤ x.first → x.last ≤ limit → count_to (span_has x) limit ≡ width x
unfolding count_to
count_past x zero above le = let own = x.ordered in absurd (omega arith)
count_past x (suc n) above le = let own = x.ordered in elim (cases_lt x.last (suc n)) [
  | inl past ↦ rw (lacks_above x (suc n) past) (count_past x n above (omega arith))
  | inr at ↦ rw (has x (suc n) (omega arith) at, count_within x n above (omega arith) (omega arith)) (omega arith)
]

-- the count of numbers in maximal spans is the sum of their widths
pub count_spans : (start limit : ℕ) (xs : List Span) → IsSpread start xs → 1 ≤ start → 65535 ≤ limit → count_to (spans_have xs) limit ≡ sum_by width xs
count_spans start limit [] s above le = count_none (λ n. false) (λ n. refl) limit
count_spans start limit (x ∷ xs) s above le =
    let first = s.0 in
    let last = s.1 in
    count_or (span_has x) (spans_have xs) (λ n in_x. let at = within_of x n in_x in let upto = at.1 in
    list_any_none (λ part. span_has part n) xs (λ k d lt. let later = spread_first (x.last + 2) xs s.2 k d lt in lacks_below (get_or xs k d) n (omega arith))) limit
    ∙ (rw (count_past x limit (omega arith) (omega arith), count_spans (x.last + 2) limit xs s.2 (omega arith) le) (sym (sum_by-cons width x xs)))

pub spread_sum : (start : ℕ) (xs : List Span) → IsSpread start xs → start ≤ 65537 → sum_by width xs + start ≤ 65537
spread_sum start [] s le = omega arith
spread_sum start (x ∷ xs) s le =
    let first = s.0 in
    let last = s.1 in
    let own = x.ordered in
    let later = spread_sum (x.last + 2) xs s.2 (omega arith) in
    let here = sum_by-cons width x xs in
    omega arith
