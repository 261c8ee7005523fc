use Rattle.std.proofs.Common.{◌++◌}
use Rattle.std.proofs.lemmas.Result.{err_from_is_err_and}
use Rattle.usbids_text.proofs.GatherLemmas.{gathers_then, fails_in_turn, fails_more}
use Rattle.usbids_text.proofs.gather.gather_three.Goals as goal

pub returns-in_err-gather : goal.returns-in_err-gather
returns-in_err-gather g c =
    let p = err_from_is_err_and c.from_residual.result c.from_residual.ensures.1 in
    rw p.1 (fails_more _ _ _ c.args.first.now (c.args.second.now ++ c.args.third.now) _ _ c.in_err-gather.ensures)

pub returns-in_err-gather-2 : goal.returns-in_err-gather-2
returns-in_err-gather-2 g c =
    let p = err_from_is_err_and c.from_residual-in_err-gather-2.result c.from_residual-in_err-gather-2.ensures.1 in
    rw p.1 (fails_in_turn _ _ _ _ _ c.args.first.now (c.args.second.now ++ c.args.third.now) _ _ _ c.in_ok-gather.ensures.0 c.in_ok-gather.ensures.1
    (fails_more _ _ _ c.args.second.now c.args.third.now _ _ c.in_err-gather-2.ensures))

pub returns : goal.returns
returns g c =
    gathers_then c.gather-3.result _ _ _ _ _ _ c.args.first.now (c.args.second.now ++ c.args.third.now) _ _ _ c.in_ok-gather.ensures.0 c.in_ok-gather.ensures.1
    (gathers_then c.gather-3.result _ _ _ _ _ _ c.args.second.now c.args.third.now _ _ _ c.in_ok-gather-2.ensures.0 c.in_ok-gather-2.ensures.1 c.gather-3.ensures)
