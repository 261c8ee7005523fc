use Rattle.std.proofs.Common.{[]}
use Rattle.std.proofs.lemmas.Result.{err_from_is_err_and}
use Rattle.usbids_text.proofs.GatherLemmas.{gathers_direct, gathers_then, fails_more}
use Rattle.usbids_text.proofs.gather.make_room.Goals as goal

pub returns : goal.returns
returns g c =
    rw (c.keeps.ensures.same c.if-keeps.false)
    (gathers_then c.put_all.result _ _ _ _ _ _ [] c.args.bytes.now _ _ _ c.in_ok-pour.ensures.gathers.0 c.in_ok-pour.ensures.gathers.1
    (gathers_direct c.put_all.result _ _ _ c.args.bytes.now _ _ c.in_ok-pour.ensures.empty c.put_all.ensures))

pub returns-in_err-pour : goal.returns-in_err-pour
returns-in_err-pour g c =
    let p = err_from_is_err_and c.from_residual.result c.from_residual.ensures.1 in
    rw p.1 (fails_more _ _ _ [] c.args.bytes.now _ _ c.in_err-pour.ensures.gathers)
