-- Maximal spans after a span is cut from them.
use Rattle.std.proofs.Common.{◌≡◌, ℕ, ◌+◌, ◌-◌, ◌<◌, ◌≤◌, Bool, false, leb, List, ◌++◌, length, get_or, take, drop, refl, sym, ap, ◌∙◌, subst, arith, Option, Some, None, inl, inr, length-take, get_or-take, get_or-drop, length-drop, append_assoc}
use Rattle.std.proofs.Math.Bool.{or-false, and-true, and-false}
use Rattle.std.specs.Prelude.{◌||◌, ◌&&◌, not}
use Rattle.std.specs.Option.{option_to_list}
use Rattle.std.specs.List.{between}
use Rattle.std.proofs.lemmas.Bool.{cases_lt, le-leb, lt-leb}
use Rattle.std.proofs.lemmas.List.{get_or_default}
use Rattle.std.proofs.lemmas.List.Folds.{list_any-append, list_any_none}
use Rattle.usbnum_core.specs.declared.number.Span.{Span}
use Rattle.usbnum_core.specs.Spans.{span_has, spans_have, IsSpread}
use Rattle.usbnum_core.specs.Parts.{IsRestBefore, IsRestAfter, spliced, IsReach}
use Rattle.usbnum_core.proofs.SpreadLemmas.{spread_cut}
use Rattle.usbnum_core.proofs.MemberLemmas.{has, lacks_below, lacks_above, none_between, any_replaced, any_split, midst_below, midst_above}

-- maximal spans with the numbers of the parts that are not in the span
pub record IsDifference (parts : List Span) (span : Span) (after : List Span) : Type 0 where
  pub spread : IsSpread 1 after
  pub numbers : (n : ℕ) → spans_have after n ≡ (spans_have parts n && not (span_has span n))

-- the rest before the span has exactly the part's numbers below the span
rest_before_below : (a span : Span) (left : Option Span) (n : ℕ) → IsRestBefore a span left → n < span.first → spans_have (option_to_list left) n ≡ leb a.first n
rest_before_below a span None n rest below = sym (lt-leb _ _ (omega arith))
rest_before_below a span (Some left) n rest below =
    let first = rest.1 in
    let last = rest.2 in
    or-false _ ∙ elim (cases_lt n a.first) [
      | inl out ↦ rw (lacks_below left n (omega arith), lt-leb _ _ out)
      | inr inside ↦ rw (has left n (omega arith) (omega arith), le-leb _ _ inside)
    ]

rest_before_above : (a span : Span) (left : Option Span) (n : ℕ) → IsRestBefore a span left → span.first ≤ n → spans_have (option_to_list left) n ≡ false
rest_before_above a span None n rest above = refl
rest_before_above a span (Some left) n rest above = let last = rest.2 in rw (lacks_above left n (omega arith))

rest_after_above : (z span : Span) (right : Option Span) (n : ℕ) → IsRestAfter z span right → span.last < n → spans_have (option_to_list right) n ≡ leb n z.last
rest_after_above z span None n rest above = sym (lt-leb _ _ (omega arith))
rest_after_above z span (Some right) n rest above =
    let first = rest.1 in
    let last = rest.2 in
    or-false _ ∙ elim (cases_lt z.last n) [
      | inl out ↦ rw (lacks_above right n (omega arith), lt-leb _ _ out)
      | inr inside ↦ rw (has right n (omega arith) (omega arith), le-leb _ _ inside)
    ]

rest_after_below : (z span : Span) (right : Option Span) (n : ℕ) → IsRestAfter z span right → n ≤ span.last → spans_have (option_to_list right) n ≡ false
rest_after_below z span None n rest below = refl
rest_after_below z span (Some right) n rest below = let first = rest.1 in rw (lacks_below right n (omega arith))

module _ (xs : List Span) (spread : IsSpread 1 xs) (low high : ℕ) (span : Span) (above : 1 ≤ span.first) (below : span.last ≤ 65535) (reach : IsReach xs span.first span.last low high) where
  -- a number of the span is in no part before `low`, and in none from `high` on
  front_lacks : (n : ℕ) → span.first ≤ n → n ≤ span.last → spans_have (take low xs) n ≡ false
  front_lacks n from upto = list_any_none (λ part. span_has part n) (take low xs) (λ k d lt.
      let short : k < low = omega (arith, length-take low xs) in
      let early = reach.ended k d (omega arith) short in
      rw (get_or-take low xs k d short) (lacks_above (get_or xs k d) n (omega arith)))

  back_lacks : (n : ℕ) → span.first ≤ n → n ≤ span.last → spans_have (drop high xs) n ≡ false
  back_lacks n from upto = list_any_none (λ part. span_has part n) (drop high xs) (λ k d lt.
      let inside : high + k < length xs = omega (arith, length-drop high xs) in
      let late = reach.not_begun (high + k) d (omega arith) inside in
      rw (get_or-drop high xs k d) (lacks_below (get_or xs (high + k) d) n (omega arith)))

  -- if no part is touched, nothing changes
  pub difference_none : high ≤ low → IsDifference xs span xs
  difference_none le = record {
    spread = spread;
    numbers = λ n. elim (cases_lt n span.first) [
      | inl before ↦ rw (lacks_below span n before) (sym (and-true _))
      | inr from ↦ elim (cases_lt span.last n) [
        | inl after ↦ rw (lacks_above span n after) (sym (and-true _))
        | inr upto ↦ none_between xs low high n le
            (λ k d f lt. let early = reach.ended k d f lt in omega arith)
            (λ k d f lt. let late = reach.not_begun k d f lt in omega arith)
            ∙ rw (has span n from upto) (sym (and-false _))
      ]
    ];
  }

  pub difference_cut : low < high → (a z : Span) (left right : Option Span) → a ≡ get_or xs low a → z ≡ get_or xs (high - 1) z → IsRestBefore a span left → IsRestAfter z span right
      → IsDifference xs span (spliced xs low high left right)
  difference_cut some a z left right low_is high_is before after =
      let high_within = reach.high_within in
      let z_is : z ≡ get_or xs (high - 1) a = high_is ∙ get_or_default xs (high - 1) z a (omega arith) in
      let rest_before : IsRestBefore (get_or xs low a) span left = subst (λ x. IsRestBefore x span left) low_is before in
      let rest_after : IsRestAfter (get_or xs (high - 1) a) span right = subst (λ x. IsRestAfter x span right) z_is after in
      let a_ends = reach.not_ended low a (omega arith) (omega arith) in
      let a_begins = reach.begun low a (omega arith) some in
      let z_begins = reach.begun (high - 1) a (omega arith) (omega arith) in
      let l = option_to_list left in
      let r = option_to_list right in
      record {
        spread = spread_cut xs spread low high some high_within span a left right below a_begins reach.not_begun rest_before rest_after;
        numbers = λ n. let p : Span → Bool = λ part. span_has part n in
            let new = any_replaced p xs (l ++ r) low high in
            let same : spans_have (spliced xs low high left right) n ≡ spans_have (take low xs ++ ((l ++ r) ++ drop high xs)) n
            = ap (λ ys. spans_have (take low xs ++ ys) n) (sym (append_assoc l r (drop high xs))) in
            let both = list_any-append p l r in
            elim (cases_lt n span.first) [
              | inl under ↦ same ∙ outside n (l ++ r) (lacks_below span n under)
                  (both ∙ (rw (rest_before_below (get_or xs low a) span left n rest_before under, rest_after_below (get_or xs (high - 1) a) span right n rest_after (let own = span.ordered in omega arith)) (or-false _)) ∙ sym (midst_below xs spread low high some high_within a n span a_ends under))
              | inr from ↦ elim (cases_lt span.last n) [
                | inl over ↦ same ∙ outside n (l ++ r) (lacks_above span n over)
                    (both ∙ (rw (rest_before_above (get_or xs low a) span left n rest_before from, rest_after_above (get_or xs (high - 1) a) span right n rest_after over)) ∙ sym (midst_above xs spread low high some high_within a n span z_begins over))
                | inr upto ↦ same ∙ new ∙ rw (front_lacks n from upto, back_lacks n from upto, both, rest_before_above (get_or xs low a) span left n rest_before from, rest_after_below (get_or xs (high - 1) a) span right n rest_after upto, has span n from upto) (sym (and-false _))
              ]
            ];
      }
    where
      outside : (n : ℕ) (ms : List Span) → span_has span n ≡ false → spans_have ms n ≡ spans_have (between low high xs) n
          → spans_have (take low xs ++ (ms ++ drop high xs)) n ≡ (spans_have xs n && not (span_has span n))
      outside n ms not_in e =
          any_replaced (λ part. span_has part n) xs ms low high
          ∙ ap (λ b. spans_have (take low xs) n || (b || spans_have (drop high xs) n)) e
          ∙ sym (any_split (λ part. span_has part n) xs low high (omega arith))
          ∙ sym (and-true _)
          ∙ ap (λ b. spans_have xs n && not b) (sym not_in)
