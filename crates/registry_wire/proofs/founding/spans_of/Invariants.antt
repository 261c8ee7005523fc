use Rattle.std.proofs.Common.{◌≡◌, ℕ, take}
use Rattle.std.specs.List.{list_any}
use Rattle.usbnum_core.specs.Spans.{span_has, spans_have, IsSpread}
use Rattle.registry_wire.proofs.founding.spans_of.Given as goal

abbrev pub invariant-loop-span : goal.invariant-loop-span
invariant-loop-span l = ((n : ℕ) → spans_have l.spans n ≡ list_any (λ span. span_has span n) (take l.span-index l.listed)) × IsSpread 1 l.spans
