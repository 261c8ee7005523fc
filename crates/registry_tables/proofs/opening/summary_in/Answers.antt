use Rattle.std.proofs.Common.{arith, rules}
use Rattle.registry_tables.proofs.ReadLemmas.{opened, then_open, fails_open, fails_first, makes}
use Rattle.registry_tables.proofs.opening.summary_in.Goals as goal

pub returns-in_err-totals-clause-reads : goal.returns-in_err-totals-clause-reads
returns-in_err-totals-clause-reads g c = fails_first (search rules) c.in_err-totals.ensures.reads

pub returns-in_err-head-clause-reads : goal.returns-in_err-head-clause-reads
returns-in_err-head-clause-reads g c = fails_open (search rules) c.in_ok-totals.ensures.reads (opened c.in_err-head.ensures.reads)

pub returns-clause-reads : goal.returns-clause-reads
returns-clause-reads g c = makes (λ h legal it. record { totals = it.0; head = it.1 }) (then_open c.in_ok-totals.ensures.reads (opened c.in_ok-head.ensures.reads))

pub returns-clause-newest : goal.returns-clause-newest
returns-clause-newest g c clean inside = c.in_ok-totals.ensures.newest (omega (arith, clean, c.head_in.ensures.reads.survives.clean)) inside
