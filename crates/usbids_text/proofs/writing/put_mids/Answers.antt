use Rattle.std.proofs.Common.{◌∙◌, refl, arith}
use Rattle.std.proofs.lemmas.Result.{err_from_is_err_and}
use Rattle.usbids_text.proofs.GatherLemmas.{turn_starts, turn_goes, turn_fails, turn_ends}
use Rattle.usbids_text.proofs.TextLemmas.{mids_text, mids_turn}
use Rattle.usbids_text.proofs.writing.put_mids.Goals as goal

pub loop-mid-init : goal.loop-mid-init
loop-mid-init g c = record { gains = turn_starts mids_text mids_turn _ _ c.args.mids.now; same = refl }

pub loop-mid-preserved : goal.loop-mid-preserved
loop-mid-preserved g c = record {
  gains = turn_goes mids_text mids_turn _ _ _ _ _ _ c.args.mids.now c.loop-mid.mid-index c.mid-item.result (omega arith) c.mid-item.is c.loop-mid.invariant.gains c.in_ok-put_mid.ensures.0;
  same = c.in_ok-put_mid.ensures.1 ∙ c.loop-mid.invariant.same;
}

pub returns-in_err-put_mid : goal.returns-in_err-put_mid
returns-in_err-put_mid g c =
    let p = err_from_is_err_and c.from_residual.result c.from_residual.ensures.1 in
    rw p.1 (turn_fails mids_text mids_turn _ _ _ _ _ _ _ _ c.args.mids.now c.loop-mid.mid-index c.mid-item.result (omega arith) c.mid-item.is c.loop-mid.invariant.gains c.loop-mid.invariant.same c.in_err-put_mid.ensures)

pub returns : goal.returns
returns g c = (turn_ends mids_text _ _ _ _ c.args.mids.now c.loop-mid.mid-index (omega arith) c.loop-mid.invariant.gains, c.loop-mid.invariant.same)
