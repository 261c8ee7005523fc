-- Equal lists have the same numbers, and lists of maximal spans with the same numbers are equal.
use Rattle.std.proofs.Common.{◌≡◌, ℕ, ap}
use Rattle.std.proofs.lemmas.Slice.Eq.{slice_eq-Decides}
use Rattle.usbnum_core.specs.Spans.{spans_have}
use Rattle.usbnum_core.proofs.SameSpansLemmas.{same_spans, span_decides}
use Rattle.usbnum_core.proofs.spans.SpansPartialEq.eq.Goals as goal

pub returns-clause-same_numbers : goal.returns-clause-same_numbers
returns-clause-same_numbers c =
    let law : ((n : ℕ) → spans_have c.self.inside.parts.items n ≡ spans_have c.other.inside.parts.items n) → c.self.inside.parts.items ≡ c.other.inside.parts.items
    = same_spans 1 1 c.self.inside.parts.items c.other.inside.parts.items c.self.invariant c.other.invariant in
    let decides = slice_eq-Decides span_decides c.self.inside.parts.items c.other.inside.parts.items c.eq.result c.eq.ensures in
    rw (← c.self.view_is, ← c.other.view_is) (λ e n. ap (λ parts. spans_have parts n) (decides.0 e), λ same. decides.1 (law same))
