-- The span is joined with the parts that it touches, or inserted if it touches none.
use Rattle.std.proofs.Common.{◌≡◌, ℕ, IsTrue, false, arith, rules}
use Rattle.usbnum_core.specs.Spans.{span_touches, spans_have}
use Rattle.usbnum_core.proofs.UnionLemmas.{IsUnion, union_joined, union_inserted, untouched}
use Rattle.usbnum_core.proofs.spans.Spans.add.Goals as goal

joined : (c : goal.After-replace) → IsUnion c.self.inside.parts.items c.args.span c.replace.new.parts.items
joined c =
    let reach = rw c.deref.ensures.value at c.reach-low.ensures in
    rw c.replace.ensures (union_joined _ c.self.invariant _ _ _ _ c.args.span (omega arith) (omega arith) reach (omega arith) (omega arith) c.if-low-high.true
    c.index.result.now c.index-then-low-high.result.now c.join-joined.result c.index.ensures c.index-then-low-high.ensures c.join-joined.ensures)

inserted : (c : goal.In_ok-insert) → IsUnion c.self.inside.parts.items c.args.span c.insert.new.self.items
inserted c =
    let reach = rw c.deref.ensures.value at c.reach-low.ensures in
    rw c.in_ok-insert.ensures.items (union_inserted _ c.self.invariant _ _ _ _ c.args.span (omega arith) (omega arith) reach (omega arith) (omega arith) (omega arith))

pub invariant_of-self : goal.invariant_of-self
invariant_of-self c = (joined c).spread

pub invariant_of-self-in-Continue-1 : goal.invariant_of-self-in-Continue-1
invariant_of-self-in-Continue-1 c = (inserted c).spread

pub returns-then-low-high-clause-union : goal.returns-then-low-high-clause-union
returns-then-low-high-clause-union c = rw (← c.self.view_is) (joined c).numbers

pub returns-in_ok-insert-clause-union : goal.returns-in_ok-insert-clause-union
returns-in_ok-insert-clause-union c = rw (← c.self.view_is) (inserted c).numbers

pub returns-then-low-high-clause-spread : goal.returns-then-low-high-clause-spread
returns-then-low-high-clause-spread c = (joined c).spread

pub returns-in_ok-insert-clause-spread : goal.returns-in_ok-insert-clause-spread
returns-in_ok-insert-clause-spread c = (inserted c).spread

pub returns-in_err-insert-clause-lone : goal.returns-in_err-insert-clause-lone
returns-in_err-insert-clause-lone c =
    let reach = rw c.deref.ensures.value at c.reach-low.ensures in
    let lone : (n : ℕ) → IsTrue (span_touches c.args.span n) → spans_have c.self.inside.parts.items n ≡ false
    = untouched _ c.self.invariant _ _ _ _ c.args.span (omega arith) (omega arith) reach (omega arith) (omega arith) (omega arith) in
    rw (← c.self.view_is) (search rules)
