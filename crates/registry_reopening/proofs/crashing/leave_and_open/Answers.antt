use Rattle.std.proofs.Common.{◌≡◌, true, inl, refl, sym, ◌∙◌, rules}
use Rattle.std.proofs.lemmas.Bool.{and_parts}
use Rattle.std.proofs.lemmas.Result.{IfOk-weaker}
use Rattle.registry_tables.specs.Rows.{newest}
use Rattle.registry_reopening.proofs.crashing.leave_and_open.Goals as goal

pub returns-clause-represents : goal.returns-clause-represents
returns-clause-represents g c h next legal legal_next leaves =
    c.open_files.ensures.represents newest h next legal legal_next (λ honest. (c.leave-files.ensures.holds h next leaves honest).now)

pub returns-clause-holds : goal.returns-clause-holds
returns-clause-holds g c h next legal legal_next leaves =
    c.open_files.ensures.holds newest h next legal legal_next (λ honest. (c.leave-files.ensures.holds h next leaves honest).now)

pub returns-then-not-may_be_used-clause-holds : goal.returns-then-not-may_be_used-clause-holds
returns-then-not-may_be_used-clause-holds g c h next legal legal_next leaves = c.leave-files.ensures.holds h next leaves

pub returns-clause-clean : goal.returns-clause-clean
returns-clause-clean g c = IfOk-weaker c.open_files.result _ _ (λ x honest clean. c.leave-files.ensures.clean (honest clean)) c.open_files.ensures.honest

pub returns-clause-opens : goal.returns-clause-opens
returns-clause-opens g c = (c.leave-files.result, c.leave-files.ensures.closed, c.open_files.ensures.opens)

pub returns-then-not-may_be_used-clause-opens : goal.returns-then-not-may_be_used-clause-opens
returns-then-not-may_be_used-clause-opens g c = (c.leave-files.result, c.leave-files.ensures.closed, inl refl)

pub open_files-requires : goal.open_files-requires
open_files-requires g c =
    let used : c.may_be_used.result ≡ true = search rules in
    and_parts (g.D.Disk.is_usable c.leave-files.result.log) (g.D.Disk.is_usable c.leave-files.result.db) (sym c.may_be_used.ensures ∙ used)
