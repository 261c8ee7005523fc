use Rattle.std.proofs.Common.{◌++◌, ◌∷◌, [], refl}
use Rattle.std.specs.Prelude.{codes, Some}
use Rattle.std.proofs.lemmas.Result.{err_from_is_err_and}
use Rattle.usbids_text.specs.Writing.{stamp_text, date_text, time_text}
use Rattle.usbids_text.proofs.GatherLemmas.{two_steps, two_fails}
use Rattle.usbids_text.proofs.TextLemmas.{stamp_parts}
use Rattle.usbids_text.proofs.writing.put_stamp.Goals as goal

pub returns-in_err-gather_three : goal.returns-in_err-gather_three
returns-in_err-gather_three g c =
    let p = err_from_is_err_and c.from_residual.result c.from_residual.ensures.1 in
    let m = c.args.stamp.now in
    rw p.1 (two_fails _ _ _ (codes "# Version: " ++ (c.date.result ++ 10 ∷ [])) (codes "# Date:    " ++ (date_text 45 m ++ (32 ∷ (time_text m ++ 10 ∷ [])))) (stamp_text (Some m)) _ _
    c.in_err-gather_three.ensures (stamp_parts m c.date.result (date_text 45 m) (32 ∷ (time_text m ++ 10 ∷ [])) c.date.ensures refl refl))

pub returns : goal.returns
returns g c =
    two_steps c.gather_three-2.result _ _ _ _ _ _ (codes "# Version: " ++ (c.date.result ++ 10 ∷ [])) (codes "# Date:    " ++ (c.date-2.result ++ c.time.result)) (stamp_text (Some c.args.stamp.now)) _ _ _
    c.in_ok-gather_three.ensures.0 c.in_ok-gather_three.ensures.1 c.gather_three-2.ensures (stamp_parts c.args.stamp.now c.date.result c.date-2.result c.time.result c.date.ensures c.date-2.ensures c.time.ensures)
