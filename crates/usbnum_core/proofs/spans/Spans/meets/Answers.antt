-- The first part that ends at the span's first number or later decides.
use Rattle.std.proofs.Common.{◌≤◌, ◌<◌, length, arith}
use Rattle.std.proofs.lemmas.Bool.{both_ways, le-ltb}
use Rattle.usbnum_core.proofs.OnePartLemmas.{meets_here, meets_past}
use Rattle.usbnum_core.proofs.spans.Spans.meets.Goals as goal

pub returns-then-low-len : goal.returns-then-low-len
returns-then-low-len c =
    let e = c.deref.ensures.value in
    let within : c.ended_before-low.result < length c.deref.result.now = omega arith in
    let before = rw e at c.ended_before-low.ensures.before in
    let after = rw e at c.ended_before-low.ensures.after in
    rw (← c.self.view_is) (meets_here c.self.inside.parts.items c.self.invariant c.ended_before-low.result c.args.span
    (λ k d f lt. let h = before k d f lt in omega arith) (λ k d f lt. let h = after k d f lt in omega arith) c.index.result.now c.index.ensures (rw e at within) _ c.begins_by_end.ensures)

pub returns-else-low-len : goal.returns-else-low-len
returns-else-low-len c =
    let e = c.deref.ensures.value in
    let past : length c.deref.result.now ≤ c.ended_before-low.result = omega arith in
    let before = rw e at c.ended_before-low.ensures.before in
    let after = rw e at c.ended_before-low.ensures.after in
    rw (← c.self.view_is) (
      λ holds. absurd (both_ways _ (le-ltb _ _ c.if-low-len.false) holds),
      λ some. absurd (meets_past c.self.inside.parts.items c.self.invariant c.ended_before-low.result c.args.span
          (λ k d f lt. let h = before k d f lt in omega arith) (λ k d f lt. let h = after k d f lt in omega arith) (rw e at past) some),
    )
