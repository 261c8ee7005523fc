use Rattle.std.proofs.Common.{◌≡◌, take, ap, ◌∙◌, arith}
use Rattle.std.proofs.lemmas.List.{take_all}
use Rattle.usbnum_core.specs.Spans.{spans_have}
use Rattle.usbnum_core.proofs.SameSpansLemmas.{same_spans}
use Rattle.registry_tables.proofs.opening.spans_of.Goals as goal

pub returns-clause-same : goal.returns-clause-same
returns-clause-same c spread =
    let parts = c.args.parts.now in
    let whole : take c.loop-part.part-index parts ≡ parts = take_all c.loop-part.part-index parts (omega arith) in
    same_spans 1 1 c.loop-part.set parts c.loop-part.invariant.spread spread (λ n. c.loop-part.invariant.numbers n ∙ ap (λ l. spans_have l n) whole)
