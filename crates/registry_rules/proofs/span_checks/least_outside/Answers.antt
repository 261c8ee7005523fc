-- None if a part has the whole span; otherwise the first number of the span, or the one after the part that has it.
use Rattle.std.proofs.Common.{◌≡◌, ◌≤◌, Some, false, ap, sym, ◌∙◌}
use Rattle.std.specs.Prelude.{find}
use Rattle.std.proofs.lemmas.List.{take_all}
use Rattle.std.proofs.lemmas.Map.Keys.{le_from_is_le}
use Rattle.usbnum_core.specs.Spans.{spans_have}
use Rattle.registry_rules.specs.Number.{numbers_in}
use Rattle.registry_rules.proofs.LeastOwnedLemmas.{is_outside, none_outside, next_outside, first_outside}
use Rattle.registry_rules.proofs.span_checks.least_outside.Goals as goal

pub returns-then-has_at : goal.returns-then-has_at
returns-then-has_at c = none_outside c.args.set.now c.args.span.now (c.has_at.ensures c.if-has_at.true)

pub returns-then-covers : goal.returns-then-covers
returns-then-covers c = none_outside c.args.set.now c.args.span.now (c.covers.ensures.0 c.if-covers.true)

pub returns-then-le-2 : goal.returns-then-le-2
returns-then-le-2 c =
    let span = c.args.span.now in
    let part = c.part-item.result in
    let low : part.first ≤ span.first = rw (sym c.first.ensures, sym c.first-in-loop-part.ensures) (le_from_is_le _ _ (sym c.le.ensures ∙ c.if-le.true)) in
    let reaches : span.first ≤ part.last = rw (sym c.first-then-le.ensures, sym c.last.ensures.last) (le_from_is_le _ _ (sym c.le-then-le.ensures ∙ c.if-le-2.true)) in
    next_outside c.parts-part-items.result.now span c.loop-part.part-index part c.next_in.result c.parts-part-items.ensures.spread c.part-item.is c.loop-part-test.true low reaches c.next_in.ensures
    ∙ ap (λ list. find (is_outside list) (numbers_in span)) c.parts-part-items.ensures.parts

pub returns : goal.returns
returns c =
    let span = c.args.span.now in
    let lacks : spans_have c.args.set.now span.first ≡ false =
    ap (λ list. spans_have list span.first) (sym (take_all c.loop-part.part-index c.parts-part-items.result.now c.loop-part-test.false ∙ c.parts-part-items.ensures.parts)) ∙ c.loop-part.invariant in
    ap (λ pid. Some pid) c.first-2.ensures ∙ first_outside c.args.set.now span lacks
