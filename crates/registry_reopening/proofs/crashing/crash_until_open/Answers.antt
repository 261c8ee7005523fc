use Rattle.std.proofs.lemmas.Result.{IfOk-weaker}
use Rattle.registry_tables.specs.Rows.{newest}
use Rattle.registry_reopening.proofs.crashing.crash_until_open.Goals as goal

pub returns-clause-represents : goal.returns-clause-represents
returns-clause-represents g c h next legal legal_next leaves = c.open_through.ensures.represents newest h next legal legal_next (c.leave.ensures.holds h next leaves)

pub returns-clause-holds : goal.returns-clause-holds
returns-clause-holds g c h next legal legal_next leaves = c.open_through.ensures.holds newest h next legal legal_next (c.leave.ensures.holds h next leaves)

pub returns-clause-clean : goal.returns-clause-clean
returns-clause-clean g c = IfOk-weaker c.open_through.result _ _ (λ x honest clean. c.leave.ensures.clean (honest clean)) c.open_through.ensures.honest
