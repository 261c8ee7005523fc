-- The numbers of spans after an edit inside the list.
use Rattle.std.proofs.Common.{◌≡◌, ℕ, ◌+◌, ◌-◌, ◌<◌, ◌≤◌, Bool, true, false, leb, List, ◌++◌, length, get_or, take, drop, refl, sym, ap, ◌∙◌, arith, inl, inr}
use Rattle.std.specs.Prelude.{◌||◌, ◌⊎◌}
use Rattle.std.specs.List.{AllWithin, between, list_any}
use Rattle.std.proofs.lemmas.Bool.{cases_lt, le-leb, lt-leb, leb-true, and_parts, and_from, and_left, and_right, or_right}
use Rattle.std.proofs.lemmas.List.Edits.{split_between, length-between, get_or-between}
use Rattle.std.proofs.lemmas.List.Elements.{All-from_get_or}
use Rattle.std.proofs.lemmas.List.Folds.{list_any-append, list_any_none, list_any_at}
use Rattle.usbnum_core.specs.declared.number.Span.{Span}
use Rattle.usbnum_core.specs.Spans.{span_has, spans_have, IsSpread}
use Rattle.usbnum_core.proofs.SpreadLemmas.{rising_first, rising_last}

pub has : (x : Span) (n : ℕ) → x.first ≤ n → n ≤ x.last → span_has x n ≡ true
has x n low high = and_from _ _ (le-leb _ _ low) (le-leb _ _ high)

pub lacks_below : (x : Span) (n : ℕ) → n < x.first → span_has x n ≡ false
lacks_below x n low = and_left _ _ (lt-leb _ _ low)

pub lacks_above : (x : Span) (n : ℕ) → x.last < n → span_has x n ≡ false
lacks_above x n high = and_right _ _ (lt-leb _ _ high)

pub within_of : (x : Span) (n : ℕ) → span_has x n ≡ true → (x.first ≤ n) × (n ≤ x.last)
within_of x n e = let both = and_parts _ _ e in (leb-true _ _ both.0, leb-true _ _ both.1)

-- no part has a number if all parts before a place end below it, and all from the place on begin above it
pub none_between : (xs : List Span) (low high : ℕ) (n : ℕ) → high ≤ low → AllWithin (λ part. part.last < n) xs 0 low → AllWithin (λ part. n < part.first) xs high (length xs) → spans_have xs n ≡ false
none_between xs low high n le before after = list_any_none (λ part. span_has part n) xs (λ k d lt. elim (cases_lt k low) [
  | inl early ↦ lacks_above (get_or xs k d) n (before k d (omega arith) early)
  | inr late ↦ lacks_below (get_or xs k d) n (after k d (omega arith) lt)
])

-- a list in three parts, the middle replaced
pub any_replaced : {X : Type 0} (p : X → Bool) (xs ms : List X) (low high : ℕ) → list_any p (take low xs ++ (ms ++ drop high xs)) ≡ (list_any p (take low xs) || (list_any p ms || list_any p (drop high xs)))
any_replaced p xs ms low high = list_any-append p (take low xs) (ms ++ drop high xs) ∙ ap (λ b. list_any p (take low xs) || b) (list_any-append p ms (drop high xs))

pub any_split : {X : Type 0} (p : X → Bool) (xs : List X) (low high : ℕ) → low ≤ high → list_any p xs ≡ (list_any p (take low xs) || (list_any p (between low high xs) || list_any p (drop high xs)))
any_split p xs low high le = ap (list_any p) (split_between xs low high le) ∙ any_replaced p xs (between low high xs) low high

move_or : (a m b q r : Bool) → (m || q) ≡ r → (a || (r || b)) ≡ ((a || (m || b)) || q)
move_or true m b q r e = refl
move_or false true b q r e = rw (sym e)
move_or false false true true r e = rw (sym e)
move_or false false true false r e = rw (sym e)
move_or false false false true r e = rw (sym e)
move_or false false false false r e = rw (sym e)

-- the union, if the replaced part and the span have the same numbers as the new ones
pub union_from_midst : (p : Span → Bool) (xs ms : List Span) (low high : ℕ) (q : Bool) → low ≤ high → (list_any p (between low high xs) || q) ≡ list_any p ms → list_any p (take low xs ++ (ms ++ drop high xs)) ≡ (list_any p xs || q)
union_from_midst p xs ms low high q le e =
    any_replaced p xs ms low high
    ∙ move_or (list_any p (take low xs)) (list_any p (between low high xs)) (list_any p (drop high xs)) q (list_any p ms) e
    ∙ ap (λ b. b || q) (sym (any_split p xs low high le))

module _ (xs : List Span) (spread : IsSpread 1 xs) (low high : ℕ) (some : low < high) (within : high ≤ length xs) (d : Span) (n : ℕ) where
  midst_has : (k : ℕ) → low ≤ k → k < high → span_has (get_or xs k d) n ≡ true → spans_have (between low high xs) n ≡ true
  midst_has k from lt holds =
      let place : low + (k - low) ≡ k = omega arith in
      list_any_at (λ span. span_has span n) (between low high xs) (k - low) d (omega (arith, length-between xs low high within))
      (rw (get_or-between xs low high (k - low) d (omega arith), place) holds)

  midst_lacks : ((k : ℕ) → low ≤ k → k < high → span_has (get_or xs k d) n ≡ false) → spans_have (between low high xs) n ≡ false
  midst_lacks fails = list_any_none (λ span. span_has span n) (between low high xs) (All-from_get_or (λ span. span_has span n ≡ false) (between low high xs) d
      (λ k lt. let short : low + k < high = omega (arith, length-between xs low high within) in rw (get_or-between xs low high k d short) (fails (low + k) (omega arith) short)))

  midst_lacks_below : n < (get_or xs low d).first → spans_have (between low high xs) n ≡ false
  midst_lacks_below below = midst_lacks (λ k from lt. let rises = rising_first 1 xs spread low k d from (omega arith) in lacks_below (get_or xs k d) n (omega arith))

  midst_lacks_above : (get_or xs (high - 1) d).last < n → spans_have (between low high xs) n ≡ false
  midst_lacks_above above = midst_lacks (λ k from lt. let rises = rising_last 1 xs spread k (high - 1) d (omega arith) (omega arith) in lacks_above (get_or xs k d) n (omega arith))

  -- the middle and a span that touches all of it have all numbers from the least to the greatest
  pub midst_joined : (span m : Span) → span.first ≤ (get_or xs low d).last + 1 → (get_or xs (high - 1) d).first ≤ span.last + 1
      → m.first ≤ span.first → m.first ≤ (get_or xs low d).first → (m.first ≡ span.first) ⊎ (m.first ≡ (get_or xs low d).first)
      → span.last ≤ m.last → (get_or xs (high - 1) d).last ≤ m.last → (m.last ≡ span.last) ⊎ (m.last ≡ (get_or xs (high - 1) d).last)
      → (spans_have (between low high xs) n || span_has span n) ≡ span_has m n
  midst_joined span m touches_low touches_high first_le first_le_low first_is last_le last_le_high last_is =
      elim (cases_lt n m.first) [
        | inl below ↦ rw (midst_lacks_below (omega arith), lacks_below span n (omega arith), lacks_below m n below)
        | inr from ↦ elim (cases_lt m.last n) [
          | inl above ↦ rw (midst_lacks_above (omega arith), lacks_above span n (omega arith), lacks_above m n above)
          | inr upto ↦ elim (cases_lt n span.first) [
            | inl before ↦ rw (midst_has low (omega arith) some (has (get_or xs low d) n (omega arith) (omega arith)), has m n from upto)
            | inr not_before ↦ elim (cases_lt span.last n) [
              | inl after ↦ rw (midst_has (high - 1) (omega arith) (omega arith) (has (get_or xs (high - 1) d) n (omega arith) (omega arith)), has m n from upto)
              | inr not_after ↦ or_right _ _ (has span n not_before not_after) ∙ sym (has m n from upto)
            ]
          ]
        ]
      ]

  -- below a span that reaches into its first part, the middle has the numbers of that part
  pub midst_below : (span : Span) → span.first ≤ (get_or xs low d).last → n < span.first → spans_have (between low high xs) n ≡ leb (get_or xs low d).first n
  midst_below span reaches below = elim (cases_lt n (get_or xs low d).first) [
    | inl out ↦ rw (midst_lacks_below out, lt-leb _ _ out)
    | inr inside ↦ rw (midst_has low (omega arith) some (has (get_or xs low d) n inside (omega arith)), le-leb _ _ inside)
  ]

  pub midst_above : (span : Span) → (get_or xs (high - 1) d).first ≤ span.last → span.last < n → spans_have (between low high xs) n ≡ leb n (get_or xs (high - 1) d).last
  midst_above span reaches above = elim (cases_lt (get_or xs (high - 1) d).last n) [
    | inl out ↦ rw (midst_lacks_above out, lt-leb _ _ out)
    | inr inside ↦ rw (midst_has (high - 1) (omega arith) (omega arith) (has (get_or xs (high - 1) d) n (omega arith) inside), le-leb _ _ inside)
  ]
