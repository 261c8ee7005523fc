-- Spans from two numbers.
use Rattle.std.specs.Prelude.{ℕ, ◌≤◌, Option, Some, None}
use Rattle.std.proofs.Math.Decide.{dec_le}
use Rattle.usbnum_core.specs.declared.number.Span.{Span}

abbrev pub span_if : (first last : ℕ) → Dec (first ≤ last) → Option Span
span_if first last (yes ordered) = Some (record { first = first; last = last; ordered = ordered })
span_if first last (no disordered) = None

-- the span from one number to another, if they are in order
unfoldable pub span_of : ℕ → ℕ → Option Span
span_of first last = span_if first last (dec_le first last)
