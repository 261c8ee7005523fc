use Rattle.std.proofs.Common.{inl, inr, ◌∙◌, arith}
use Rattle.std.proofs.lemmas.Result.{err_from_is_err_and}
use Rattle.usbids_text.proofs.IntakeLemmas.{feeds_next, feeds_end, feeds_some}
use Rattle.usbids_text.proofs.intake.feed_all.Goals as goal

pub returns-then-count-eq0-clause-ok : goal.returns-then-count-eq0-clause-ok
returns-then-count-eq0-clause-ok g c =
    let e = c.in_ok-count.ensures.ok in
    feeds_end _ _ _ _ _ _ c.args.intake.now c.loop-total.intake c.feed_next.new.intake c.loop-total.total c.in_ok-count.count c.loop-total.invariant.feeds (e.0, e.1, e.2, e.3) c.if-count-eq0.true (e.4 c.if-count-eq0.true) (omega arith)

pub loop-total-preserved : goal.loop-total-preserved
loop-total-preserved g c =
    let e = c.in_ok-count.ensures.ok in
    record { feeds = feeds_next _ _ _ _ _ _ c.args.intake.now c.loop-total.intake c.feed_next.new.intake c.loop-total.total c.in_ok-count.count c.loop-total.invariant.feeds (e.0, e.1, e.2, e.3); same_failures = e.5 ∙ c.loop-total.invariant.same_failures; room = let r = c.loop-total.invariant.room in let s = c.in_ok-count.ensures.room in omega (arith, r, s) }

pub returns-in_err-count-clause-err : goal.returns-in_err-count-clause-err
returns-in_err-count-clause-err g c =
    let p = err_from_is_err_and c.from_residual.result c.from_residual.ensures.1 in
    let some = feeds_some _ _ _ _ _ c.args.intake.now c.loop-total.intake c.loop-total.total c.loop-total.invariant.feeds in
    rw p.1 (some.0, some.1, inl (rw (← c.loop-total.invariant.same_failures) c.in_err-count.ensures.failed))

pub returns-clause-err : goal.returns-clause-err
returns-clause-err g c =
    let some = feeds_some _ _ _ _ _ c.args.intake.now c.loop-total.intake c.loop-total.total c.loop-total.invariant.feeds in
    (some.0, some.1, inr (let k = some.2 in omega arith, c.loop-total.invariant.same_failures))
