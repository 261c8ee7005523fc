-- From one part to the whole set.
use Rattle.std.proofs.Common.{◌≡◌, ℕ, ◌+◌, ◌<◌, ◌≤◌, Bool, true, false, List, length, get_or, sym, ap, ◌∙◌, subst, arith, inl, inr}
use Rattle.std.specs.Prelude.{◌↔◌, IsTrue}
use Rattle.std.specs.List.{AllWithin}
use Rattle.std.proofs.lemmas.Bool.{cases_lt, cases_Bool, both_ways, false_from_ne_true}
use Rattle.std.proofs.lemmas.List.{get_or_default}
use Rattle.std.proofs.lemmas.List.Folds.{list_any_at}
use Rattle.usbnum_core.specs.declared.number.Span.{Span}
use Rattle.usbnum_core.specs.Spans.{span_has, spans_have, IsSpread}
use Rattle.usbnum_core.proofs.SpreadLemmas.{spread_apart, rising_first}
use Rattle.usbnum_core.proofs.MemberLemmas.{has, within_of, none_between}

module _ (xs : List Span) (spread : IsSpread 1 xs) (low : ℕ) (span : Span) (ended : AllWithin (λ part. part.last < span.first) xs 0 low) (not_ended : AllWithin (λ part. span.first ≤ part.last) xs low (length xs)) where
  -- after the last part, no number from the span's first on is in the set
  lacks_past : length xs ≤ low → (n : ℕ) → span.first ≤ n → spans_have xs n ≡ false
  lacks_past past n from = none_between xs low low n (omega arith) (λ k d f lt. let early = ended k d f lt in omega arith) (λ k d f lt. absurd (omega arith))

  -- nor is one below the first part that reaches it
  lacks_before : (a : Span) → a ≡ get_or xs low a → low < length xs → (n : ℕ) → span.first ≤ n → n < a.first → spans_have xs n ≡ false
  lacks_before a is within n from before = none_between xs low low n (omega arith) (λ k d f lt. let early = ended k d f lt in omega arith)
      (λ k d f lt. let rises = rising_first 1 xs spread low k d f lt in
      let same : a.first ≡ (get_or xs low d).first = ap (λ (x : Span). x.first) (is ∙ get_or_default xs low a d within) in
      omega arith)

  -- nor is the number just after that part
  lacks_after : (a : Span) → a ≡ get_or xs low a → low < length xs → span.first ≤ a.last + 1 → spans_have xs (a.last + 1) ≡ false
  lacks_after a is within from = none_between xs (low + 1) (low + 1) (a.last + 1) (omega arith)
      (λ k d f lt. elim (cases_lt k low) [
        | inl early ↦ let ends = ended k d f early in omega arith
        | inr here ↦
            let k_low : low ≡ k = omega arith in
            let same : a.last ≡ (get_or xs k d).last = subst (λ q. a.last ≡ (get_or xs q d).last) k_low (ap (λ (x : Span). x.last) (is ∙ get_or_default xs low a d within)) in
            omega arith
      ])
      (λ k d f lt. let apart = spread_apart 1 xs spread low k d (omega arith) lt in
      let same : a.last ≡ (get_or xs low d).last = ap (λ (x : Span). x.last) (is ∙ get_or_default xs low a d within) in
      omega arith)

  has_here : (a : Span) → a ≡ get_or xs low a → low < length xs → (n : ℕ) → a.first ≤ n → n ≤ a.last → spans_have xs n ≡ true
  has_here a is within n from upto = list_any_at (λ part. span_has part n) xs low a within (subst (λ x. span_has x n ≡ true) is (has a n from upto))

  pub meets_here : (a : Span) → a ≡ get_or xs low a → low < length xs → (r : Bool) → (IsTrue r ↔ (a.first ≤ span.last)) → IsTrue r ↔ ((n : ℕ) × IsTrue (span_has span n) × IsTrue (spans_have xs n))
  meets_here a is within r decides = (forward, backward)
    where
      a_ends : span.first ≤ a.last
      a_ends = subst (λ (x : Span). span.first ≤ x.last) (sym is) (not_ended low a (omega arith) within)

      forward : IsTrue r → (n : ℕ) × IsTrue (span_has span n) × IsTrue (spans_have xs n)
      forward e = let ends_a = a_ends in let begins = decides.0 e in let own = span.ordered in let own_a = a.ordered in elim (cases_lt a.first span.first) [
        | inl before ↦ (span.first, has span span.first (omega arith) own, has_here a is within span.first (omega arith) a_ends)
        | inr inside ↦ (a.first, has span a.first inside begins, has_here a is within a.first (omega arith) own_a)
      ]

      backward : ((n : ℕ) × IsTrue (span_has span n) × IsTrue (spans_have xs n)) → IsTrue r
      backward w = let ends_a = a_ends in elim (cases_lt span.last a.first) [
        | inl past ↦ let at = within_of span w.0 w.1 in let from = at.0 in let upto = at.1 in absurd (both_ways _ (lacks_before a is within w.0 from (omega arith)) w.2)
        | inr by ↦ decides.1 by
      ]

  pub meets_past : length xs ≤ low → ((n : ℕ) × IsTrue (span_has span n) × IsTrue (spans_have xs n)) → ⊥
  meets_past past w = both_ways _ (lacks_past past w.0 (within_of span w.0 w.1).0) w.2

  pub covers_here : (a : Span) → a ≡ get_or xs low a → low < length xs → (r : Bool) → (IsTrue r ↔ ((a.first ≤ span.first) × (span.last ≤ a.last))) → IsTrue r ↔ ((n : ℕ) → IsTrue (span_has span n) → IsTrue (spans_have xs n))
  covers_here a is within r decides = (forward, backward)
    where
      a_ends : span.first ≤ a.last
      a_ends = subst (λ (x : Span). span.first ≤ x.last) (sym is) (not_ended low a (omega arith) within)

      forward : IsTrue r → (n : ℕ) → IsTrue (span_has span n) → IsTrue (spans_have xs n)
      forward e n in_span = let ends_a = a_ends in let inside = decides.0 e in let first = inside.0 in let last = inside.1 in let at = within_of span n in_span in let from = at.0 in let upto = at.1 in
          has_here a is within n (omega arith) (omega arith)

      begins : ((n : ℕ) → IsTrue (span_has span n) → IsTrue (spans_have xs n)) → a.first ≤ span.first
      begins all = let ends_a = a_ends in elim (cases_lt span.first a.first) [
        | inl past ↦ absurd (both_ways _ (lacks_before a is within span.first (omega arith) past) (all span.first (has span span.first (omega arith) span.ordered)))
        | inr by ↦ by
      ]

      ends : ((n : ℕ) → IsTrue (span_has span n) → IsTrue (spans_have xs n)) → span.last ≤ a.last
      ends all = let ends_a = a_ends in elim (cases_lt a.last span.last) [
        | inl short ↦ absurd (both_ways _ (lacks_after a is within (omega arith)) (all (a.last + 1) (has span (a.last + 1) (omega arith) (omega arith))))
        | inr by ↦ by
      ]

      backward : ((n : ℕ) → IsTrue (span_has span n) → IsTrue (spans_have xs n)) → IsTrue r
      backward all = decides.1 (begins all, ends all)

  pub covers_past : length xs ≤ low → ((n : ℕ) → IsTrue (span_has span n) → IsTrue (spans_have xs n)) → ⊥
  covers_past past all = both_ways _ (lacks_past past span.first (omega arith)) (all span.first (has span span.first (omega arith) span.ordered))

-- a span of one number meets the set if and only if the set has the number
pub has_from_meets : (xs : List Span) (n : ℕ) (span : Span) → span.first ≡ n → span.last ≡ n → (r : Bool) → (IsTrue r ↔ ((k : ℕ) × IsTrue (span_has span k) × IsTrue (spans_have xs k))) → r ≡ spans_have xs n
has_from_meets xs n span first last r meets = elim (cases_Bool r) [
  | inl e ↦ e ∙ sym (found (meets.0 e))
  | inr e ↦ e ∙ sym (false_from_ne_true _ (λ holds. both_ways _ e (meets.1 (n, has span n (omega arith) (omega arith), holds))))
]
  where
    found : ((k : ℕ) × IsTrue (span_has span k) × IsTrue (spans_have xs k)) → spans_have xs n ≡ true
    found w =
        let at = within_of span w.0 w.1 in
        let from = at.0 in
        let upto = at.1 in
        let place : w.0 ≡ n = omega arith in
        subst (λ k. spans_have xs k ≡ true) place w.2
