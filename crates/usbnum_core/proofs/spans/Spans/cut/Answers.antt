-- The rests of the parts that the span meets.
use Rattle.std.proofs.Common.{arith, rules}
use Rattle.usbnum_core.proofs.DifferenceLemmas.{IsDifference, difference_cut, difference_none}
use Rattle.usbnum_core.proofs.spans.Spans.cut.Goals as goal

after_cut : (c : goal.In_ok-splice) → IsDifference c.self.inside.parts.items c.args.span c.splice.new.parts.items
after_cut c =
    let reach = rw (c.deref.ensures.value) at c.reach-low.ensures in
    rw c.in_ok-splice.ensures.ok (difference_cut _ c.self.invariant _ _ c.args.span (omega arith) (omega arith) (search rules) c.if-low-high.true
    c.index.result.now c.index-then-low-high.result.now _ _ c.index.ensures c.index-then-low-high.ensures c.rest_before-left.ensures c.rest_after-right.ensures)

pub invariant_of-self : goal.invariant_of-self
invariant_of-self c = (after_cut c).spread

pub returns-in_ok-splice-clause-difference : goal.returns-in_ok-splice-clause-difference
returns-in_ok-splice-clause-difference c = rw (← c.self.view_is) (after_cut c).numbers

pub returns-else-low-high-clause-difference : goal.returns-else-low-high-clause-difference
returns-else-low-high-clause-difference c =
    let reach = rw (c.deref.ensures.value) at c.reach-low.ensures in
    rw (← c.self.view_is) (difference_none c.self.inside.parts.items c.self.invariant c.reach-low.result.0 c.reach-low.result.1 c.args.span (omega arith) (omega arith) (search rules) (omega arith)).numbers

pub returns-in_ok-splice-clause-spread : goal.returns-in_ok-splice-clause-spread
returns-in_ok-splice-clause-spread c = (after_cut c).spread
