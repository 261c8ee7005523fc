use Rattle.std.proofs.Common.{◌++◌, ◌∷◌, [], refl}
use Rattle.std.proofs.lemmas.Result.{err_from_is_err_and}
use Rattle.usbids_text.specs.Writing.{gap, line_text}
use Rattle.usbids_text.proofs.GatherLemmas.{two_steps, two_fails}
use Rattle.usbids_text.proofs.TextLemmas.{digits_text, line_whole}
use Rattle.usbids_text.proofs.writing.put_line.Goals as goal

pub returns-in_err-gather_three : goal.returns-in_err-gather_three
returns-in_err-gather_three g c =
    let p = err_from_is_err_and c.from_residual.result c.from_residual.ensures.1 in
    let tag = c.args.tag.now in
    let space = c.args.space.now in
    let name = c.args.name.now in
    let digits = c.last_digits.result.now in
    rw p.1 (two_fails _ _ _ (tag ++ (space ++ digits)) (gap name ++ (name ++ 10 ∷ [])) (line_text (tag ++ space) c.args.digits c.args.code name ++ 10 ∷ []) _ _
    c.in_err-gather_three.ensures
    (line_whole tag space c.args.digits c.args.code name digits (gap name) (digits_text c.args.digits c.args.code c.four_digits-all.result digits c.four_digits-all.ensures c.last_digits.ensures) refl))

pub returns : goal.returns
returns g c =
    let tag = c.args.tag.now in
    let space = c.args.space.now in
    let name = c.args.name.now in
    let digits = c.last_digits.result.now in
    two_steps c.gather_three-2.result _ _ _ _ _ _ (tag ++ (space ++ digits)) (c.gap.result.now ++ (name ++ 10 ∷ [])) (line_text (tag ++ space) c.args.digits c.args.code name ++ 10 ∷ []) _ _ _
    c.in_ok-gather_three.ensures.0 c.in_ok-gather_three.ensures.1 c.gather_three-2.ensures
    (line_whole tag space c.args.digits c.args.code name digits c.gap.result.now (digits_text c.args.digits c.args.code c.four_digits-all.result digits c.four_digits-all.ensures c.last_digits.ensures) c.gap.ensures)
