-- The steps of an edit of a list of maximal spans. No public contract uses these.
use Rattle.std.specs.Prelude.{◌≡◌, ℕ, ◌+◌, ◌<◌, ◌≤◌, List, ◌++◌, length, take, drop, true, false, ◌⊎◌, Option, Some, None}
use Rattle.std.specs.Option.{option_to_list}
use Rattle.std.specs.List.{AllWithin}
use Rattle.usbnum_core.specs.declared.number.Span.{Span}
use Rattle.usbnum_core.specs.Spans.{is_in_either}

-- the parts that end at `start` or later and begin at `end` or earlier are those from `low` on and before `high`
pub record IsReach (parts : List Span) (start end low high : ℕ) : Type 0 where
  pub low_within : low ≤ length parts
  pub high_within : high ≤ length parts
  pub ended : AllWithin (λ part. part.last < start) parts 0 low
  pub not_ended : AllWithin (λ part. start ≤ part.last) parts low (length parts)
  pub begun : AllWithin (λ part. part.first ≤ end) parts 0 high
  pub not_begun : AllWithin (λ part. end < part.first) parts high (length parts)

-- the span from the least start to the greatest end
pub record IsJoined (low high span joined : Span) : Type 0 where
  pub first_below : joined.first ≤ span.first
  pub first_below_low : joined.first ≤ low.first
  pub first_is : (joined.first ≡ span.first) ⊎ (joined.first ≡ low.first)
  pub last_above : span.last ≤ joined.last
  pub last_above_high : high.last ≤ joined.last
  pub last_is : (joined.last ≡ span.last) ⊎ (joined.last ≡ high.last)

-- the rest of a part before a span that is cut from it
abbrev pub IsRestBefore : Span → Span → Option Span → Type 0
IsRestBefore part span None = span.first ≤ part.first
IsRestBefore part span (Some rest) = (part.first < span.first) × (rest.first ≡ part.first) × (rest.last + 1 ≡ span.first)

-- the rest of the part after the span
abbrev pub IsRestAfter : Span → Span → Option Span → Type 0
IsRestAfter part span None = part.last ≤ span.last
IsRestAfter part span (Some rest) = (span.last < part.last) × (rest.first ≡ span.last + 1) × (rest.last ≡ part.last)

-- the spans, where those from `low` on and before `high` are replaced
abbrev pub spliced : List Span → ℕ → ℕ → Option Span → Option Span → List Span
spliced spans low high left right = take low spans ++ (option_to_list left ++ (option_to_list right ++ drop high spans))

-- the least number from 1 on that is not taken
pub record IsFirstFree (parts : List Span) (numbers : List ℕ) (free : ℕ) : Type 0 where
  pub above : 1 ≤ free
  pub within : free ≤ 65536
  pub outside : is_in_either parts numbers free ≡ false
  pub below_taken : (n : ℕ) → 1 ≤ n → n < free → is_in_either parts numbers n ≡ true
