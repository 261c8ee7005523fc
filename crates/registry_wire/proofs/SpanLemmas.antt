-- The span made from two numbers is that of their definition.
use Rattle.std.proofs.Common.{◌≡◌, ℕ, ◌≤◌, ◌↔◌, Option, Some, None, IsSome, IfSome, refl, ap}
use Rattle.std.proofs.Math.Bridge.{le_prop}
use mathlib.Core.HLevel.{is_prop→PathP}
use Rattle.usbnum_core.specs.declared.number.Span.{Span}
use Rattle.registry_wire.specs.Spans.{span_if}

same_ends : (span : Span) (first last : ℕ) (ordered : first ≤ last) → span.first ≡ first → span.last ≡ last → span ≡ record { first = first; last = last; ordered = ordered }
same_ends span first last ordered p q = λ i. record { first = p i; last = q i; ordered = is_prop→PathP (λ j. p j ≤ q j) (λ j. le_prop) span.ordered ordered i }

pub same_span : (first last : ℕ) (decided : Dec (first ≤ last)) (found : Option Span) → (IsSome found ↔ (first ≤ last)) → IfSome found (λ span. (span.first ≡ first) × (span.last ≡ last)) → found ≡ span_if first last decided
same_span first last (yes ordered) None valid ends = let there : IsSome {T = Span} None = valid.1 ordered in absurd cc
same_span first last (yes ordered) (Some span) valid ends = ap (λ (x : Span). Some x) (same_ends span first last ordered ends.0 ends.1)
same_span first last (no disordered) None valid ends = refl
same_span first last (no disordered) (Some span) valid ends = absurd (disordered (valid.0 refl))
