-- Maximal spans after a span is added to them.
use Rattle.std.proofs.Common.{◌≡◌, ℕ, ◌+◌, ◌-◌, ◌<◌, ◌≤◌, false, List, [], ◌∷◌, ◌++◌, get_or, take, drop, sym, ap, ◌∙◌, arith, inl, inr}
use Rattle.std.proofs.Math.Bool.{or-false}
use Rattle.std.specs.Prelude.{◌||◌, ◌⊎◌, nat_le, IsTrue}
use Rattle.std.specs.List.{insert}
use Rattle.std.proofs.lemmas.Bool.{and_parts, leb-true}
use Rattle.std.proofs.lemmas.List.{get_or_default}
use Rattle.std.proofs.lemmas.List.Edits.{between_none}
use Rattle.usbnum_core.specs.declared.number.Span.{Span}
use Rattle.usbnum_core.specs.Spans.{span_has, span_touches, spans_have, IsSpread}
use Rattle.usbnum_core.specs.Parts.{IsReach, IsJoined}
use Rattle.usbnum_core.proofs.SpreadLemmas.{spread_first, spread_last, spread_apart, spread_one}
use Rattle.usbnum_core.proofs.MemberLemmas.{none_between, union_from_midst, midst_joined}

-- maximal spans with the numbers of the parts and of the span
pub record IsUnion (parts : List Span) (span : Span) (after : List Span) : Type 0 where
  pub spread : IsSpread 1 after
  pub numbers : (n : ℕ) → spans_have after n ≡ (spans_have parts n || span_has span n)

module _ (xs : List Span) (spread : IsSpread 1 xs) (start end low high : ℕ) (span : Span) (above : 1 ≤ span.first) (below : span.last ≤ 65535) (reach : IsReach xs start end low high) where
  -- a span that touches some parts
  pub union_joined : start + 1 ≡ span.first → end ≡ span.last + 1 → low < high → (a z m : Span) → a ≡ get_or xs low a → z ≡ get_or xs (high - 1) z → IsJoined a z span m
      → IsUnion xs span (take low xs ++ m ∷ drop high xs)
  union_joined starts ends some a z m low_is high_is joined =
      let high_within = reach.high_within in
      let z_is : z ≡ get_or xs (high - 1) a = high_is ∙ get_or_default xs (high - 1) z a (omega arith) in
      let first_of : a.first ≡ (get_or xs low a).first = ap (λ (x : Span). x.first) low_is in
      let last_of : a.last ≡ (get_or xs low a).last = ap (λ (x : Span). x.last) low_is in
      let z_first : z.first ≡ (get_or xs (high - 1) a).first = ap (λ (x : Span). x.first) z_is in
      let z_last : z.last ≡ (get_or xs (high - 1) a).last = ap (λ (x : Span). x.last) z_is in
      let a_above = spread_first 1 xs spread low a (omega arith) in
      let z_below = spread_last 1 xs spread (high - 1) a (omega arith) in
      let a_ends = reach.not_ended low a (omega arith) (omega arith) in
      let z_begins = reach.begun (high - 1) a (omega arith) (omega arith) in
      let first_is : (m.first ≡ span.first) ⊎ (m.first ≡ (get_or xs low a).first) = elim joined.first_is [ inl e ↦ inl e | inr e ↦ inr (e ∙ first_of) ] in
      let last_is : (m.last ≡ span.last) ⊎ (m.last ≡ (get_or xs (high - 1) a).last) = elim joined.last_is [ inl e ↦ inl e | inr e ↦ inr (e ∙ z_last) ] in
      let m_first_span = joined.first_below in
      let m_first_low = joined.first_below_low in
      let m_last_span = joined.last_above in
      let m_last_high = joined.last_above_high in
      let m_above : 1 ≤ m.first = elim first_is [ inl e ↦ omega arith | inr e ↦ omega arith ] in
      let m_below : m.last ≤ 65535 = elim last_is [ inl e ↦ omega arith | inr e ↦ omega arith ] in
      record {
        spread = spread_one xs spread low high m reach.low_within m_above m_below
            (λ k d from lt. let early = reach.ended k d from lt in let apart = spread_apart 1 xs spread k low d lt (omega arith) in let same = get_or_default xs low a d (omega arith) in
            let first_here : (get_or xs low d).first ≡ a.first = ap (λ (x : Span). x.first) (sym (low_is ∙ same)) in
            elim first_is [ inl e ↦ omega arith | inr e ↦ omega arith ])
            (λ k d from lt. let late = reach.not_begun k d from lt in let apart = spread_apart 1 xs spread (high - 1) k d (omega arith) lt in let same = get_or_default xs (high - 1) a d (omega arith) in
            let last_here : (get_or xs (high - 1) d).last ≡ z.last = ap (λ (x : Span). x.last) (sym (z_is ∙ same)) in
            elim last_is [ inl e ↦ omega arith | inr e ↦ omega arith ]);
        numbers = λ n. union_from_midst (λ part. span_has part n) xs (m ∷ []) low high (span_has span n) (omega arith)
            (midst_joined xs spread low high some high_within a n span m (omega arith) (omega arith) m_first_span (omega arith) first_is m_last_span (omega arith) last_is ∙ sym (or-false (span_has m n)));
      }

  -- a span that touches none
  pub union_inserted : start + 1 ≡ span.first → end ≡ span.last + 1 → high ≤ low → IsUnion xs span (insert xs low span)
  union_inserted starts ends none =
      let low_within = reach.low_within in
      record {
        spread = spread_one xs spread low low span low_within above below
            (λ k d from lt. let early = reach.ended k d from lt in omega arith)
            (λ k d from lt. let late = reach.not_begun k d (omega arith) lt in omega arith);
        numbers = λ n. union_from_midst (λ part. span_has part n) xs (span ∷ []) low low (span_has span n) (omega arith)
            (ap (λ ys. spans_have ys n || span_has span n) (between_none xs low) ∙ sym (or-false (span_has span n)));
      }

  -- no number of it or next to it is in any part
  pub untouched : start + 1 ≡ span.first → end ≡ span.last + 1 → high ≤ low → (n : ℕ) → IsTrue (span_touches span n) → spans_have xs n ≡ false
  untouched starts ends none n touches =
      let at = and_parts (nat_le span.first (n + 1)) (nat_le n (span.last + 1)) touches in
      let from = leb-true span.first (n + 1) at.0 in
      let upto = leb-true n (span.last + 1) at.1 in
      none_between xs low high n none
      (λ k d f lt. let early = reach.ended k d f lt in omega arith)
      (λ k d f lt. let late = reach.not_begun k d f lt in omega arith)
