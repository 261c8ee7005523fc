use Rattle.std.proofs.Common.{ap, refl, List, ◌++◌}
use Rattle.std.proofs.lemmas.Result.{err_from_is_err_and}
use Rattle.usbids_text.specs.Entries.{TopEntry}
use Rattle.usbids_text.specs.Writing.{head_text, written}
use Rattle.usbids_text.proofs.GatherLemmas.{two_steps, two_fails}
use Rattle.usbids_text.proofs.TextLemmas.{tops_text}
use Rattle.usbids_text.proofs.writing.put_all_lines.Goals as goal

pub returns-in_err-put_head : goal.returns-in_err-put_head
returns-in_err-put_head g c =
    let p = err_from_is_err_and c.from_residual.result c.from_residual.ensures.1 in
    rw p.1 (two_fails _ _ _ (head_text c.args.stamp) (tops_text c.args.document.now) (written c.args.document.now c.args.stamp) _ _ c.in_err-put_head.ensures refl)

pub returns : goal.returns
returns g c =
    two_steps c.put_tops.result _ _ _ _ _ _ (head_text c.args.stamp) (tops_text c.tops.result.now) (written c.args.document.now c.args.stamp) _ _ _ c.in_ok-put_head.ensures.0 c.in_ok-put_head.ensures.1 c.put_tops.ensures
    (ap (λ (d : List TopEntry). head_text c.args.stamp ++ tops_text d) c.tops.ensures.value)
