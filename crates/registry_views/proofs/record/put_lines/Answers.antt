use Rattle.std.proofs.Common.{take, arith, rules}
use Rattle.registry_views.proofs.RecordLemmas.{piece_more, piece_ended}
use Rattle.registry_views.proofs.record.put_lines.Goals as goal

pub loop-one-init : goal.loop-one-init
loop-one-init c = λ lines most begun next. (begun, omega arith)

pub loop-one-preserved : goal.loop-one-preserved
loop-one-preserved c = λ lines most begun next. piece_more most lines c.args.page.now c.loop-one.page c.put_line.new.page c.args.accepted.now c.loop-one.one-index c.one-item.result c.in_ok-put_line.field-0
    (c.loop-one.invariant lines most begun next) next (omega arith) c.one-item.is (search rules) (c.in_ok-put_line.ensures (take c.loop-one.page.count lines))

pub returns : goal.returns
returns c = λ lines most begun next. let so_far = c.loop-one.invariant lines most begun next in let count = so_far.1 in (so_far.0, omega (arith, count))

pub returns-then-not-branch : goal.returns-then-not-branch
returns-then-not-branch c = λ lines most begun next. piece_ended most lines c.args.page.now c.loop-one.page c.put_line.new.page c.args.accepted.now c.loop-one.one-index c.one-item.result c.in_ok-put_line.field-0
    (c.loop-one.invariant lines most begun next) next (omega arith) c.one-item.is (search rules) (c.in_ok-put_line.ensures (take c.loop-one.page.count lines))
