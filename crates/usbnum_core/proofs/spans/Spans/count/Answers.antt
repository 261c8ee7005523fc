-- The sum of the widths so far and of the next one is at most that of all parts, which is at most 65,536.
use Rattle.std.proofs.Common.{◌≡◌, ◌+◌, ◌<◌, take, sym, ◌∙◌, ap, arith, rules}
use Rattle.std.specs.List.{sum_by}
use Rattle.std.proofs.lemmas.List.{take_all}
use Rattle.std.proofs.lemmas.List.Sums.{sum_by_more_le}
use Rattle.usbnum_core.proofs.CountLemmas.{width, count_spans, spread_sum}
use Rattle.usbnum_core.proofs.spans.Spans.count.Goals as goal

pub overflow_add-total-in-loop-part : goal.overflow_add-total-in-loop-part
overflow_add-total-in-loop-part c =
    let all = spread_sum 1 c.self.inside.parts.items c.self.invariant (omega arith) in
    let whole : sum_by width c.deref-part-items.result.now ≡ sum_by width c.self.inside.parts.items = ap (sum_by width) c.deref-part-items.ensures.value in
    let here = sum_by_more_le width c.deref-part-items.result.now c.loop-part.part-index c.part-item.result (omega arith) in
    let same = ap width c.part-item.is in
    let bound : c.loop-part.total + (c.from.result + 1) < 4294967296 = omega arith in
    search rules

pub returns : goal.returns
returns c =
    let all : take c.loop-part.part-index c.deref-part-items.result.now ≡ c.deref-part-items.result.now = take_all _ _ (omega arith) in
    c.loop-part.invariant ∙ ap (sum_by width) (all ∙ c.deref-part-items.ensures.value) ∙ rw (← c.self.view_is) (sym (count_spans 1 65535 _ c.self.invariant (omega arith) (omega arith)))
