use Rattle.std.proofs.lemmas.Result.{IfOk-weaker}
use Rattle.registry_store.proofs.CrashLemmas.{both}
use Rattle.registry_reopening.proofs.crashing.crash_and_open_store.Goals as goal

pub returns-clause-represents : goal.returns-clause-represents
returns-clause-represents g c from h next legal legal_next leaves =
    c.open_files.ensures.represents from h next legal legal_next (λ honest.
    (c.leave_store-files.ensures.holds from h next leaves (both _ _ _ _ c.crash.ensures.clean c.crash-2.ensures.clean honest)).crash _ (c.crash.ensures.left, c.crash-2.ensures.left))

pub returns-clause-holds : goal.returns-clause-holds
returns-clause-holds g c from h next legal legal_next leaves =
    c.open_files.ensures.holds from h next legal legal_next (λ honest.
    (c.leave_store-files.ensures.holds from h next leaves (both _ _ _ _ c.crash.ensures.clean c.crash-2.ensures.clean honest)).crash _ (c.crash.ensures.left, c.crash-2.ensures.left))

pub returns-clause-clean : goal.returns-clause-clean
returns-clause-clean g c =
    IfOk-weaker c.open_files.result _ _ (λ x honest clean. c.leave_store-files.ensures.clean (both _ _ _ _ c.crash.ensures.clean c.crash-2.ensures.clean (honest clean)))
    c.open_files.ensures.honest

pub returns-clause-opens : goal.returns-clause-opens
returns-clause-opens g c = (c.leave_store-files.result, _, c.leave_store-files.ensures.closed, (c.crash.ensures.left, c.crash-2.ensures.left), c.open_files.ensures.opens)
