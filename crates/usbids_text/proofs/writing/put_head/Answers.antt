use Rattle.std.proofs.Common.{◌++◌, ◌∷◌, []}
use Rattle.std.proofs.lemmas.Result.{err_from_is_err_and}
use Rattle.usbids_text.specs.Writing.{stamp_text, title}
use Rattle.usbids_text.proofs.GatherLemmas.{gathers_then, fails_in_turn, fails_more}
use Rattle.usbids_text.proofs.writing.put_head.Goals as goal

pub returns-in_err-put_title : goal.returns-in_err-put_title
returns-in_err-put_title g c =
    let p = err_from_is_err_and c.from_residual.result c.from_residual.ensures.1 in
    rw p.1 (fails_more _ _ _ (title ++ 10 ∷ []) (stamp_text c.args.stamp ++ 10 ∷ []) _ _ c.in_err-put_title.ensures)

pub returns-in_err-put_stamps : goal.returns-in_err-put_stamps
returns-in_err-put_stamps g c =
    let p = err_from_is_err_and c.from_residual-in_err-put_stamps.result c.from_residual-in_err-put_stamps.ensures.1 in
    rw p.1 (fails_in_turn _ _ _ _ _ (title ++ 10 ∷ []) (stamp_text c.args.stamp ++ 10 ∷ []) _ _ _ c.in_ok-put_title.ensures.0 c.in_ok-put_title.ensures.1
    (fails_more _ _ _ (stamp_text c.args.stamp) (10 ∷ []) _ _ c.in_err-put_stamps.ensures))

pub returns : goal.returns
returns g c =
    gathers_then c.gather.result _ _ _ _ _ _ (title ++ 10 ∷ []) (stamp_text c.args.stamp ++ 10 ∷ []) _ _ _ c.in_ok-put_title.ensures.0 c.in_ok-put_title.ensures.1
    (gathers_then c.gather.result _ _ _ _ _ _ (stamp_text c.args.stamp) (10 ∷ []) _ _ _ c.in_ok-put_stamps.ensures.0 c.in_ok-put_stamps.ensures.1 c.gather.ensures)
