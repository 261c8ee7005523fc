use Rattle.std.proofs.Common.{◌∙◌, ap, List, ◌++◌, ◌∷◌, []}
use Rattle.std.proofs.lemmas.Result.{err_from_is_err_and}
use Rattle.usbids_text.specs.Entries.{LeafEntry, mid_line}
use Rattle.usbids_text.specs.Writing.{entry_text}
use Rattle.usbids_text.proofs.GatherLemmas.{two_steps, two_fails}
use Rattle.usbids_text.proofs.TextLemmas.{mid_text, leaves_text, mids_text}
use Rattle.usbids_text.proofs.writing.put_mid.Goals as goal

pub returns-in_err-put_mid_line : goal.returns-in_err-put_mid_line
returns-in_err-put_mid_line g c =
    let p = err_from_is_err_and c.from_residual.result c.from_residual.ensures.1 in
    let e = c.args.mid.now in
    rw p.1 (two_fails _ _ _ (entry_text (mid_line e)) (leaves_text e.leaves) (mids_text (e ∷ [])) _ _ c.in_err-put_mid_line.ensures (mid_text e))

pub returns : goal.returns
returns g c =
    let e = c.args.mid.now in
    two_steps c.put_leaves.result _ _ _ _ _ _ (entry_text (mid_line e)) (leaves_text c.leaves.result.now) (mids_text (e ∷ [])) _ _ _ c.in_ok-put_mid_line.ensures.0 c.in_ok-put_mid_line.ensures.1 c.put_leaves.ensures
    (ap (λ (x : List LeafEntry). entry_text (mid_line e) ++ leaves_text x) c.leaves.ensures ∙ mid_text e)
