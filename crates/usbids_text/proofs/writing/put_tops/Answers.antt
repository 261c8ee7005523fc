use Rattle.std.proofs.Common.{◌∙◌, refl, arith}
use Rattle.std.proofs.lemmas.Result.{err_from_is_err_and}
use Rattle.usbids_text.proofs.GatherLemmas.{turn_starts, turn_goes, turn_fails, turn_ends}
use Rattle.usbids_text.proofs.TextLemmas.{tops_text, tops_turn}
use Rattle.usbids_text.proofs.writing.put_tops.Goals as goal

pub loop-top-init : goal.loop-top-init
loop-top-init g c = record { gains = turn_starts tops_text tops_turn _ _ c.args.tops.now; same = refl }

pub loop-top-preserved : goal.loop-top-preserved
loop-top-preserved g c = record {
  gains = turn_goes tops_text tops_turn _ _ _ _ _ _ c.args.tops.now c.loop-top.top-index c.top-item.result (omega arith) c.top-item.is c.loop-top.invariant.gains c.in_ok-put_top.ensures.0;
  same = c.in_ok-put_top.ensures.1 ∙ c.loop-top.invariant.same;
}

pub returns-in_err-put_top : goal.returns-in_err-put_top
returns-in_err-put_top g c =
    let p = err_from_is_err_and c.from_residual.result c.from_residual.ensures.1 in
    rw p.1 (turn_fails tops_text tops_turn _ _ _ _ _ _ _ _ c.args.tops.now c.loop-top.top-index c.top-item.result (omega arith) c.top-item.is c.loop-top.invariant.gains c.loop-top.invariant.same c.in_err-put_top.ensures)

pub returns : goal.returns
returns g c = (turn_ends tops_text _ _ _ _ c.args.tops.now c.loop-top.top-index (omega arith) c.loop-top.invariant.gains, c.loop-top.invariant.same)
