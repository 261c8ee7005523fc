use Rattle.std.proofs.Common.{◌∙◌, refl, arith}
use Rattle.std.proofs.lemmas.Result.{err_from_is_err_and}
use Rattle.usbids_text.proofs.GatherLemmas.{turn_starts, turn_goes, turn_fails, turn_ends}
use Rattle.usbids_text.proofs.TextLemmas.{leaves_text, leaves_turn}
use Rattle.usbids_text.proofs.writing.put_leaves.Goals as goal

pub loop-leaf-init : goal.loop-leaf-init
loop-leaf-init g c = record { gains = turn_starts leaves_text leaves_turn _ _ c.args.leaves.now; same = refl }

pub loop-leaf-preserved : goal.loop-leaf-preserved
loop-leaf-preserved g c = record {
  gains = turn_goes leaves_text leaves_turn _ _ _ _ _ _ c.args.leaves.now c.loop-leaf.leaf-index c.leaf-item.result (omega arith) c.leaf-item.is c.loop-leaf.invariant.gains c.in_ok-put_leaf.ensures.0;
  same = c.in_ok-put_leaf.ensures.1 ∙ c.loop-leaf.invariant.same;
}

pub returns-in_err-put_leaf : goal.returns-in_err-put_leaf
returns-in_err-put_leaf g c =
    let p = err_from_is_err_and c.from_residual.result c.from_residual.ensures.1 in
    rw p.1 (turn_fails leaves_text leaves_turn _ _ _ _ _ _ _ _ c.args.leaves.now c.loop-leaf.leaf-index c.leaf-item.result (omega arith) c.leaf-item.is c.loop-leaf.invariant.gains c.loop-leaf.invariant.same c.in_err-put_leaf.ensures)

pub returns : goal.returns
returns g c = (turn_ends leaves_text _ _ _ _ c.args.leaves.now c.loop-leaf.leaf-index (omega arith) c.loop-leaf.invariant.gains, c.loop-leaf.invariant.same)
