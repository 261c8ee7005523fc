use Rattle.std.proofs.Common.{◌≡◌, ℕ, take}
use Rattle.usbnum_core.specs.Spans.{spans_have, IsSpread}
use Rattle.registry_tables.proofs.opening.spans_of.Given as goal

-- the set has the numbers of the spans so far
abbrev pub invariant-loop-part : goal.invariant-loop-part
invariant-loop-part l = record {
  numbers : (n : ℕ) → spans_have l.set n ≡ spans_have (take l.part-index l.parts) n;
  spread : IsSpread 1 l.set;
}
