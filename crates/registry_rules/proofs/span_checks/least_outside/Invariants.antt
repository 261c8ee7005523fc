-- no part so far has the first number of the span
use Rattle.std.proofs.Common.{◌≡◌, false, take}
use Rattle.usbnum_core.specs.Spans.{spans_have}
use Rattle.registry_rules.proofs.span_checks.least_outside.Given as goal

abbrev pub invariant-loop-part : goal.invariant-loop-part
invariant-loop-part l = spans_have (take l.part-index l.part-items) l.span.first ≡ false
