-- Joining a span to the reserved spans of a vendor, and cutting it out of them.
use Rattle.std.proofs.Common.{◌≡◌, ℕ, ◌+◌, ◌-◌, ◌<◌, ◌≤◌, ◌⊎◌, inl, inr, Bool, true, false, cond, ◌&&◌, ◌||◌, nat_eq, nat_le, List, [], ◌∷◌, ◌++◌, Option, Some, None, MatchOption, refl, sym, ap, subst, ◌∙◌, arith}
use Rattle.std.specs.List.{AllByRecursion, list_any}
use Rattle.std.proofs.lemmas.Bool.{and_cases, or_left, or_from, cases_eq, false_from_ne_true, eqb-true, eqb-false, leb-false}
use Rattle.std.proofs.lemmas.List.Folds.{list_any-append}
use Rattle.sqlite_trees.specs.Tree.{IsAscending}
use Rattle.sqlite_keyed.proofs.ListLemmas.{all_of, all_weaker, all_both, all-append, any_from_none, ascending-append}
use Rattle.usbnum_core.specs.Spans.{span_has}
use Rattle.usbnum_core.specs.declared.number.Number.{Number}
use Rattle.usbnum_core.specs.declared.number.Span.{Span}
use Rattle.registry_rows.specs.Rows.{meets}
use Rattle.registry_tables.specs.Rows.{vendor_span_has, AreApart}
use Rattle.registry_tables.specs.Reserved.{Reaches, part_of, AreApartFrom}
use Rattle.registry_tables.proofs.SpanLists.{some_of, met_is, missed_is, has_is, has_from, IsCut, IsFound, all_found}

-- ---- tests

-- the number is in the vendor's span
abbrev pub is_in : ℕ → Span → Number → Bool
is_in vid span n = nat_eq vid n.vid && span_has span n.pid

joined : (k f j i : Bool) → (i ≡ true → j ≡ true) → (f ≡ true → j ≡ true) → (j ≡ true → i ≡ false → f ≡ true) → (k || (j || false)) ≡ cond i true (f || k)
joined true true j true a b c = refl
joined true true j false a b c = refl
joined true false j true a b c = refl
joined true false j false a b c = refl
joined false f true true a b c = refl
joined false true true false a b c = refl
joined false false true false a b c = absurd (let e = c refl refl in cc)
joined false f false true a b c = absurd (let e = a refl in cc)
joined false true false false a b c = absurd (let e = b refl in cc)
joined false false false false a b c = refl

parted : (k l r f i : Bool) → (i ≡ true → k ≡ false) → (i ≡ true → l ≡ false) → (i ≡ true → r ≡ false) → (l ≡ true → f ≡ true) → (r ≡ true → f ≡ true)
    → (f ≡ true → i ≡ false → (l ≡ true) ⊎ (r ≡ true)) → ((k || l) || r) ≡ cond i false (f || k)
parted k l r f true a b c d e g = rw (a refl, b refl, c refl) refl
parted true l r true false a b c d e g = refl
parted true l r false false a b c d e g = refl
parted false true r f false a b c d e g = rw (d refl) refl
parted false false true f false a b c d e g = rw (e refl) refl
parted false false false false false a b c d e g = refl
parted false false false true false a b c d e g = absurd (none (g refl refl))
  where
    none : (false ≡ true) ⊎ (false ≡ true) → ⊥
    none (inl x) = cc
    none (inr x) = cc

-- a number of the vendor outside the span is on one side of it
aside : (vid : ℕ) (span : Span) (n : Number) → is_in vid span n ≡ false → vid ≡ n.vid → (n.pid < span.first) ⊎ (span.last < n.pid)
aside vid span n out here = go (and_cases (nat_eq vid n.vid) (span_has span n.pid) out)
  where
    go_2 : (nat_le span.first n.pid ≡ false) ⊎ (nat_le n.pid span.last ≡ false) → (n.pid < span.first) ⊎ (span.last < n.pid)
    go_2 (inl below) = inl (leb-false span.first n.pid below)
    go_2 (inr above) = inr (leb-false n.pid span.last above)

    go : (nat_eq vid n.vid ≡ false) ⊎ (span_has span n.pid ≡ false) → (n.pid < span.first) ⊎ (span.last < n.pid)
    go (inl other) = absurd (eqb-false vid n.vid other here)
    go (inr out) = go_2 (and_cases (nat_le span.first n.pid) (nat_le n.pid span.last) out)

one_of : (b : Bool) → (b || false) ≡ true → b ≡ true
one_of true is = refl
one_of false is = is

pub beside_one : (vid : ℕ) (part : Span) (kept : List (ℕ × Span)) → AllByRecursion (λ k. AreApart k (vid, part)) kept → AreApartFrom (part_of vid (Some part)) kept
beside_one vid part kept all = all_weaker (λ k. AreApart k (vid, part)) (λ k. AllByRecursion (AreApart k) ((vid, part) ∷ [])) (λ k apart. (apart, tt)) kept all

-- spans that are apart stay apart with a part added that is apart from them
pub ascend_part : (vid : ℕ) (part : Option Span) (spans : List (ℕ × Span)) → IsAscending AreApart spans → AreApartFrom (part_of vid part) spans → IsAscending AreApart (spans ++ part_of vid part)
ascend_part vid None spans up apart = ascending-append AreApart spans [] up tt apart
ascend_part vid (Some one) spans up apart = ascending-append AreApart spans ((vid, one) ∷ []) up (tt, tt) apart

module _ (vid low high : ℕ) (spans found kept : List (ℕ × Span)) (cut : IsCut vid low high spans found kept) (span : Span) (least greatest : ℕ) (reach : Reaches span found least greatest) where
  abbrev IsOne : ℕ × Span → Type 0
  IsOne = IsFound vid low high found kept

  ones : AllByRecursion IsOne found
  ones = all_found vid low high spans found kept cut

  -- the span found with the least start, and the one with the greatest end
  first_one : list_any (λ s. nat_eq s.1.first least) found ≡ true → (s : ℕ × Span) × (s.1.first ≡ least) × IsOne s
  first_one any = let s = some_of (λ s. nat_eq s.1.first least) IsOne found any ones in (s.0, eqb-true s.0.1.first least s.1, s.2)

  last_one : list_any (λ s. nat_eq s.1.last greatest) found ≡ true → (s : ℕ × Span) × (s.1.last ≡ greatest) × IsOne s
  last_one any = let s = some_of (λ s. nat_eq s.1.last greatest) IsOne found any ones in (s.0, eqb-true s.0.1.last greatest s.1, s.2)

  -- a number of the spans found lies between the ends
  found_between : (n : Number) → list_any (vendor_span_has n) found ≡ true → (vid ≡ n.vid) × (least ≤ n.pid) × (n.pid ≤ greatest)
  found_between n any =
      let Around : ℕ × Span → Type 0 = λ s. (least ≤ s.1.first) × (s.1.last ≤ greatest) in
      let Both : ℕ × Span → Type 0 = λ s. Around s × (meets vid low high s ≡ true) in
      let s = some_of (vendor_span_has n) Both found any (all_both Around (λ s. meets vid low high s ≡ true) Both (λ s a m. (a, m)) found reach.around cut.met) in
      let has = has_is n s.0 s.1 in
      let met = met_is vid low high s.0 s.2.1 in
      let a : least ≤ s.0.1.first = s.2.0.0 in
      let b : s.0.1.last ≤ greatest = s.2.0.1 in
      let l : s.0.1.first ≤ n.pid = has.1 in
      let r : n.pid ≤ s.0.1.last = has.2 in
      (sym met.0 ∙ has.0, omega arith, omega arith)

  -- a number of the join outside the span is in one of the spans found
  beyond : span.first ≤ low + 1 → high ≤ span.last + 1 → (n : Number) → vid ≡ n.vid → least ≤ n.pid → n.pid ≤ greatest → (n.pid < span.first) ⊎ (span.last < n.pid) → list_any (vendor_span_has n) found ≡ true
  beyond near_low near_high n here a b (inl below) = go reach.from
    where
      go : (least ≡ span.first) ⊎ (list_any (λ s. nat_eq s.1.first least) found ≡ true) → list_any (vendor_span_has n) found ≡ true
      go (inl own) = absurd (omega (arith, own, a, below))
      go (inr any) =
          let s = first_one any in
          let met = met_is vid low high s.0 s.2.met in
          let m : low ≤ s.0.1.last = met.1 in
          let e : s.0.1.first ≡ least = s.1 in
          s.2.own n (has_from n s.0 (met.0 ∙ here) (omega (arith, e, a)) (omega (arith, m, near_low, below)))
  beyond near_low near_high n here a b (inr above) = go reach.to
    where
      go : (greatest ≡ span.last) ⊎ (list_any (λ s. nat_eq s.1.last greatest) found ≡ true) → list_any (vendor_span_has n) found ≡ true
      go (inl own) = absurd (omega (arith, own, b, above))
      go (inr any) =
          let s = last_one any in
          let met = met_is vid low high s.0 s.2.met in
          let m : s.0.1.first ≤ high = met.2 in
          let e : s.0.1.last ≡ greatest = s.1 in
          s.2.own n (has_from n s.0 (met.0 ∙ here) (omega (arith, m, near_high, above)) (omega (arith, e, b)))

  -- ---- the join

  module _ (from_low : low ≡ span.first - 1) (to_high : high ≡ span.last + 1) where
    left_apart : (k : ℕ × Span) (s : ℕ × Span) → meets vid low high s ≡ true → AreApart k s → k.0 ≡ vid → k.1.last + 1 < span.first → k.1.last + 1 < s.1.first
    left_apart k s met (inl other) here below = absurd (other (here ∙ sym (met_is vid low high s met).0))
    left_apart k s met (inr (inl less)) here below = less
    left_apart k s met (inr (inr more)) here below = let m : low ≤ s.1.last = (met_is vid low high s met).1 in let own = k.1.ordered in absurd (omega arith)

    right_apart : (k : ℕ × Span) (s : ℕ × Span) → meets vid low high s ≡ true → AreApart k s → k.0 ≡ vid → span.last + 1 < k.1.first → s.1.last + 1 < k.1.first
    right_apart k s met (inl other) here above = absurd (other (here ∙ sym (met_is vid low high s met).0))
    right_apart k s met (inr (inr more)) here above = more
    right_apart k s met (inr (inl less)) here above = let m : s.1.first ≤ high = (met_is vid low high s met).2 in let own = k.1.ordered in absurd (omega arith)

    left_side : AllByRecursion (λ k. k.0 ≡ vid → k.1.last + 1 < span.first → k.1.last + 1 < least) kept
    left_side = go reach.from
      where
        Side : ℕ × Span → Type 0
        Side = λ k. k.0 ≡ vid → k.1.last + 1 < span.first → k.1.last + 1 < least

        go : (least ≡ span.first) ⊎ (list_any (λ s. nat_eq s.1.first least) found ≡ true) → AllByRecursion Side kept
        go (inl own) = all_of Side (λ k here below. subst (λ m. k.1.last + 1 < m) (sym own) below) kept
        go (inr any) =
            let s = first_one any in
            all_weaker (λ k. AreApart k s.0) Side (λ k apart here below. subst (λ m. k.1.last + 1 < m) s.1 (left_apart k s.0 s.2.met apart here below)) kept s.2.apart

    right_side : AllByRecursion (λ k. k.0 ≡ vid → span.last + 1 < k.1.first → greatest + 1 < k.1.first) kept
    right_side = go reach.to
      where
        Side : ℕ × Span → Type 0
        Side = λ k. k.0 ≡ vid → span.last + 1 < k.1.first → greatest + 1 < k.1.first

        go : (greatest ≡ span.last) ⊎ (list_any (λ s. nat_eq s.1.last greatest) found ≡ true) → AllByRecursion Side kept
        go (inl own) = all_of Side (λ k here above. subst (λ m. m + 1 < k.1.first) (sym own) above) kept
        go (inr any) =
            let s = last_one any in
            all_weaker (λ k. AreApart k s.0) Side (λ k apart here above. subst (λ m. m + 1 < k.1.first) s.1 (right_apart k s.0 s.2.met apart here above)) kept s.2.apart

    module _ (join : Span) (first : join.first ≡ least) (last : join.last ≡ greatest) where
      join_apart_one : (k : ℕ × Span) → meets vid low high k ≡ false → (k.0 ≡ vid → k.1.last + 1 < span.first → k.1.last + 1 < least) → (k.0 ≡ vid → span.last + 1 < k.1.first → greatest + 1 < k.1.first)
          → AreApart k (vid, join)
      join_apart_one k missed left right = go (cases_eq k.0 vid)
        where
          go_2 : k.0 ≡ vid → (k.1.last < low) ⊎ (high < k.1.first) → AreApart k (vid, join)
          go_2 here (inl below) = let l : k.1.last + 1 < least = left here (omega (arith, below, from_low)) in inr (inl (omega (arith, l, first)))
          go_2 here (inr above) = let r : greatest + 1 < k.1.first = right here (omega (arith, above, to_high)) in inr (inr (omega (arith, r, last)))

          go : (k.0 ≡ vid) ⊎ (k.0 ≡ vid → ⊥) → AreApart k (vid, join)
          go (inl here) = go_2 here (missed_is vid low high k missed here)
          go (inr away) = inl away

      pub join_apart : AllByRecursion (λ k. AreApart k (vid, join)) kept
      join_apart =
          let Left : ℕ × Span → Type 0 = λ k. k.0 ≡ vid → k.1.last + 1 < span.first → k.1.last + 1 < least in
          let Right : ℕ × Span → Type 0 = λ k. k.0 ≡ vid → span.last + 1 < k.1.first → greatest + 1 < k.1.first in
          all_both (λ k. meets vid low high k ≡ false) (λ k. Left k × Right k) (λ k. AreApart k (vid, join)) (λ k missed both. join_apart_one k missed both.0 both.1) kept cut.missed
          (all_both Left Right (λ k. Left k × Right k) (λ k l r. (l, r)) kept left_side right_side)

      pub join_each : (n : Number) → list_any (vendor_span_has n) (kept ++ (vid, join) ∷ []) ≡ cond (is_in vid span n) true (list_any (vendor_span_has n) spans)
      join_each n =
          list_any-append (vendor_span_has n) kept ((vid, join) ∷ [])
          ∙ joined (list_any (vendor_span_has n) kept) (list_any (vendor_span_has n) found) (vendor_span_has n (vid, join)) (is_in vid span n)
          (λ inside. (let own = has_is n (vid, span) inside in
          has_from n (vid, join) own.0 (omega (arith, own.1, first, reach.below)) (omega (arith, own.2, last, reach.above))))
          (λ any. (let at = found_between n any in has_from n (vid, join) at.0 (omega (arith, at.1, first)) (omega (arith, at.2, last))))
          (λ has out. (let own = has_is n (vid, join) has in
          beyond (omega (arith, from_low)) (omega (arith, to_high)) n own.0 (omega (arith, own.1, first)) (omega (arith, own.2, last)) (aside vid span n out own.0)))
          ∙ ap (λ b. cond (is_in vid span n) true b) (sym (cut.all n))

  -- ---- what is left on either side

  module _ (from_low : low ≡ span.first) (to_high : high ≡ span.last) where
    left_apart_one : (part : Span) → part.first ≡ least → part.last + 1 ≡ span.first → (s : ℕ × Span) → s.1.first ≡ least → meets vid low high s ≡ true → (k : ℕ × Span) → AreApart k s → AreApart k (vid, part)
    left_apart_one part first last s is met k (inl other) = inl (λ same. other (same ∙ sym (met_is vid low high s met).0))
    left_apart_one part first last s is met k (inr (inl less)) = inr (inl (omega (arith, less, first, is)))
    left_apart_one part first last s is met k (inr (inr more)) = let m : low ≤ s.1.last = (met_is vid low high s met).1 in inr (inr (omega (arith, more, m, from_low, last)))

    right_apart_one : (part : Span) → part.first ≡ span.last + 1 → part.last ≡ greatest → (s : ℕ × Span) → s.1.last ≡ greatest → meets vid low high s ≡ true → (k : ℕ × Span) → AreApart k s → AreApart k (vid, part)
    right_apart_one part first last s is met k (inl other) = inl (λ same. other (same ∙ sym (met_is vid low high s met).0))
    right_apart_one part first last s is met k (inr (inl less)) = let m : s.1.first ≤ high = (met_is vid low high s met).2 in inr (inl (omega (arith, less, m, to_high, first)))
    right_apart_one part first last s is met k (inr (inr more)) = inr (inr (omega (arith, more, last, is)))

    left_apart_all : (part : Span) → part.first ≡ least → part.last + 1 ≡ span.first → AllByRecursion (λ k. AreApart k (vid, part)) kept
    left_apart_all part first last = go reach.from
      where
        go : (least ≡ span.first) ⊎ (list_any (λ s. nat_eq s.1.first least) found ≡ true) → AllByRecursion (λ k. AreApart k (vid, part)) kept
        go (inl own) = let ends = part.ordered in absurd (omega (arith, own, first, last))
        go (inr any) = let s = first_one any in all_weaker (λ k. AreApart k s.0) (λ k. AreApart k (vid, part)) (left_apart_one part first last s.0 s.1 s.2.met) kept s.2.apart

    right_apart_all : (part : Span) → part.first ≡ span.last + 1 → part.last ≡ greatest → AllByRecursion (λ k. AreApart k (vid, part)) kept
    right_apart_all part first last = go reach.to
      where
        go : (greatest ≡ span.last) ⊎ (list_any (λ s. nat_eq s.1.last greatest) found ≡ true) → AllByRecursion (λ k. AreApart k (vid, part)) kept
        go (inl own) = let ends = part.ordered in absurd (omega (arith, own, first, last))
        go (inr any) = let s = last_one any in all_weaker (λ k. AreApart k s.0) (λ k. AreApart k (vid, part)) (right_apart_one part first last s.0 s.1 s.2.met) kept s.2.apart

    abbrev IsUntouched : Option Span → Type 0
    IsUntouched left = MatchOption left (span.first ≤ least) (λ part. (part.first ≡ least) × (part.last + 1 ≡ span.first))

    abbrev IsRight : Option Span → Type 0
    IsRight right = MatchOption right (greatest ≤ span.last) (λ part. (part.first ≡ span.last + 1) × (part.last ≡ greatest))

    pub left_beside : (left : Option Span) → IsUntouched left → AreApartFrom (part_of vid left) kept
    left_beside None is = all_of (λ k. Unit {0}) (λ k. tt) kept
    left_beside (Some part) is = beside_one vid part kept (left_apart_all part is.0 is.1)

    right_of_left : (left right : Option Span) → IsUntouched left → IsRight right → AreApartFrom (part_of vid right) (part_of vid left)
    right_of_left None right l r = tt
    right_of_left (Some a) None l r = (tt, tt)
    right_of_left (Some a) (Some b) l r = let ends = span.ordered in ((inr (inl (omega (arith, l.1, r.0))), tt), tt)

    right_kept : (right : Option Span) → IsRight right → AreApartFrom (part_of vid right) kept
    right_kept None is = all_of (λ k. Unit {0}) (λ k. tt) kept
    right_kept (Some part) is = beside_one vid part kept (right_apart_all part is.0 is.1)

    pub right_beside : (left right : Option Span) → IsUntouched left → IsRight right → AreApartFrom (part_of vid right) (kept ++ part_of vid left)
    right_beside left right l r = all-append (λ k. AllByRecursion (AreApart k) (part_of vid right)) kept (part_of vid left) (right_kept right r) (right_of_left left right l r)

    kept_out : (n : Number) → is_in vid span n ≡ true → list_any (vendor_span_has n) kept ≡ false
    kept_out n inside = any_from_none (vendor_span_has n) kept (all_weaker (λ k. meets vid low high k ≡ false) (λ k. vendor_span_has n k ≡ false) one kept cut.missed)
      where
        one : (k : ℕ × Span) → meets vid low high k ≡ false → vendor_span_has n k ≡ false
        one k missed = false_from_ne_true (vendor_span_has n k) never
          where
            go : span.first ≤ n.pid → n.pid ≤ span.last → k.1.first ≤ n.pid → n.pid ≤ k.1.last → (k.1.last < low) ⊎ (high < k.1.first) → ⊥
            go a b c d (inl below) = omega (arith, a, d, below, from_low)
            go a b c d (inr above) = omega (arith, b, c, above, to_high)

            never : vendor_span_has n k ≡ true → ⊥
            never has =
                let at = has_is n k has in
                let own = has_is n (vid, span) inside in
                go own.1 own.2 at.1 at.2 (missed_is vid low high k missed (at.0 ∙ sym own.0))

    left_out : (left : Option Span) → IsUntouched left → (n : Number) → is_in vid span n ≡ true → list_any (vendor_span_has n) (part_of vid left) ≡ false
    left_out None is n inside = refl
    left_out (Some part) is n inside =
        or_from (vendor_span_has n (vid, part)) false
        (false_from_ne_true (vendor_span_has n (vid, part)) (λ has. (let at = has_is n (vid, part) has in
        let own = has_is n (vid, span) inside in
        omega (arith, at.2, own.1, is.1))))
        refl

    right_out : (right : Option Span) → IsRight right → (n : Number) → is_in vid span n ≡ true → list_any (vendor_span_has n) (part_of vid right) ≡ false
    right_out None is n inside = refl
    right_out (Some part) is n inside =
        or_from (vendor_span_has n (vid, part)) false
        (false_from_ne_true (vendor_span_has n (vid, part)) (λ has. (let at = has_is n (vid, part) has in
        let own = has_is n (vid, span) inside in
        omega (arith, at.1, own.2, is.0))))
        refl

    left_was : (left : Option Span) → IsUntouched left → (n : Number) → list_any (vendor_span_has n) (part_of vid left) ≡ true → list_any (vendor_span_has n) found ≡ true
    left_was None is n any = absurd cc
    left_was (Some part) is n any =
        let at = has_is n (vid, part) (one_of (vendor_span_has n (vid, part)) any) in
        let ends = span.ordered in
        beyond (omega (arith, from_low)) (omega (arith, to_high)) n at.0 (omega (arith, at.1, is.0)) (omega (arith, at.2, is.1, reach.above)) (inl (omega (arith, at.2, is.1)))

    right_was : (right : Option Span) → IsRight right → (n : Number) → list_any (vendor_span_has n) (part_of vid right) ≡ true → list_any (vendor_span_has n) found ≡ true
    right_was None is n any = absurd cc
    right_was (Some part) is n any =
        let at = has_is n (vid, part) (one_of (vendor_span_has n (vid, part)) any) in
        let ends = span.ordered in
        beyond (omega (arith, from_low)) (omega (arith, to_high)) n at.0 (omega (arith, at.1, is.0, reach.below)) (omega (arith, at.2, is.1)) (inr (omega (arith, at.1, is.0)))

    left_has : (left : Option Span) → IsUntouched left → (n : Number) → vid ≡ n.vid → least ≤ n.pid → n.pid < span.first → list_any (vendor_span_has n) (part_of vid left) ≡ true
    left_has None is n here a b = absurd (omega (arith, is, a, b))
    left_has (Some part) is n here a b = or_left (vendor_span_has n (vid, part)) false (has_from n (vid, part) here (omega (arith, is.0, a)) (omega (arith, is.1, b)))

    right_has : (right : Option Span) → IsRight right → (n : Number) → vid ≡ n.vid → span.last < n.pid → n.pid ≤ greatest → list_any (vendor_span_has n) (part_of vid right) ≡ true
    right_has None is n here a b = absurd (omega (arith, is, a, b))
    right_has (Some part) is n here a b = or_left (vendor_span_has n (vid, part)) false (has_from n (vid, part) here (omega (arith, is.0, a)) (omega (arith, is.1, b)))

    still_has : (left right : Option Span) → IsUntouched left → IsRight right → (n : Number) → list_any (vendor_span_has n) found ≡ true → is_in vid span n ≡ false
        → (list_any (vendor_span_has n) (part_of vid left) ≡ true) ⊎ (list_any (vendor_span_has n) (part_of vid right) ≡ true)
    still_has left right l r n any out = go (aside vid span n out at.0)
      where
        at : (vid ≡ n.vid) × (least ≤ n.pid) × (n.pid ≤ greatest)
        at = found_between n any

        go : (n.pid < span.first) ⊎ (span.last < n.pid) → (list_any (vendor_span_has n) (part_of vid left) ≡ true) ⊎ (list_any (vendor_span_has n) (part_of vid right) ≡ true)
        go (inl below) = inl (left_has left l n at.0 at.1 below)
        go (inr above) = inr (right_has right r n at.0 above at.2)

    pub parts_each : (left right : Option Span) → IsUntouched left → IsRight right → (n : Number)
        → list_any (vendor_span_has n) ((kept ++ part_of vid left) ++ part_of vid right) ≡ cond (is_in vid span n) false (list_any (vendor_span_has n) spans)
    parts_each left right l r n =
        let has = vendor_span_has n in
        list_any-append has (kept ++ part_of vid left) (part_of vid right)
        ∙ ap (λ b. b || list_any has (part_of vid right)) (list_any-append has kept (part_of vid left))
        ∙ parted (list_any has kept) (list_any has (part_of vid left)) (list_any has (part_of vid right)) (list_any has found) (is_in vid span n)
        (kept_out n) (left_out left l n) (right_out right r n) (left_was left l n) (right_was right r n) (still_has left right l r n)
        ∙ ap (λ b. cond (is_in vid span n) false b) (sym (cut.all n))
