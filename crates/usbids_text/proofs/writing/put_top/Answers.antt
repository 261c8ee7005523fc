use Rattle.std.proofs.Common.{◌∙◌, ap, List, ◌++◌, ◌∷◌, []}
use Rattle.std.proofs.lemmas.Result.{err_from_is_err_and}
use Rattle.usbids_text.specs.Entries.{MidEntry, top_line}
use Rattle.usbids_text.specs.Writing.{entry_text}
use Rattle.usbids_text.proofs.GatherLemmas.{two_steps, two_fails}
use Rattle.usbids_text.proofs.TextLemmas.{top_text, mids_text, tops_text}
use Rattle.usbids_text.proofs.writing.put_top.Goals as goal

pub returns-in_err-put_top_line : goal.returns-in_err-put_top_line
returns-in_err-put_top_line g c =
    let p = err_from_is_err_and c.from_residual.result c.from_residual.ensures.1 in
    let e = c.args.top.now in
    rw p.1 (two_fails _ _ _ (entry_text (top_line e)) (mids_text e.mids) (tops_text (e ∷ [])) _ _ c.in_err-put_top_line.ensures (top_text e))

pub returns : goal.returns
returns g c =
    let e = c.args.top.now in
    two_steps c.put_mids.result _ _ _ _ _ _ (entry_text (top_line e)) (mids_text c.mids.result.now) (tops_text (e ∷ [])) _ _ _ c.in_ok-put_top_line.ensures.0 c.in_ok-put_top_line.ensures.1 c.put_mids.ensures
    (ap (λ (x : List MidEntry). entry_text (top_line e) ++ mids_text x) c.mids.ensures ∙ top_text e)
