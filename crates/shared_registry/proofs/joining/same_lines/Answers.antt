use Rattle.std.proofs.Common.{inr, arith}
use Rattle.std.proofs.lemmas.Option.{slice_get_within}
use Rattle.shared_registry.proofs.JoinLemmas.{ends_apart, same_so_far}
use Rattle.shared_registry.proofs.joining.same_lines.Goals as goal

pub returns-then-not-has_line : goal.returns-then-not-has_line
returns-then-not-has_line c =
    let counted = c.loop-line.invariant.counted in
    let lt = c.loop-line-test.true in
    let there = c.loop-line.invariant.there in
    let hasnt = rw counted at (c.has_line.ensures.hasnt c.if-not-has_line.true) in
    rw counted (record {
      within = omega (arith, lt);
      there = omega (arith, there, counted);
      same = c.loop-line.invariant.same;
      ends = inr (ends_apart c.args.ours.now c.args.theirs.now c.loop-line.line-index c.line-item.result lt c.line-item.is hasnt);
    })

pub loop-line-preserved : goal.loop-line-preserved
loop-line-preserved c =
    let counted = c.loop-line.invariant.counted in
    let has = c.has_line.ensures.has c.if-not-has_line.false in
    record {
      counted = omega (arith, counted);
      there = (let within = slice_get_within c.args.theirs.now c.loop-line.count c.line-item.result has in omega (arith, within));
      same = same_so_far c.args.ours.now c.args.theirs.now c.loop-line.line-index c.line-item.result c.loop-line-test.true c.line-item.is (rw counted at has) c.loop-line.invariant.same;
    }
