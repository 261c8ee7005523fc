use Rattle.std.proofs.Common.{ap, arith, rules}
use Rattle.registry_rows.specs.declared.meta.Meta.{Meta}
use Rattle.registry_tables.proofs.ReadLemmas.{opened, then_open, fails_open, fails_first, makes}
use Rattle.registry_tables.proofs.opening.founding_in.Goals as goal

pub returns-in_err-meta-clause-reads : goal.returns-in_err-meta-clause-reads
returns-in_err-meta-clause-reads g c = fails_first (search rules) c.in_err-meta.ensures.reads

pub returns-in_err-curators-clause-reads : goal.returns-in_err-curators-clause-reads
returns-in_err-curators-clause-reads g c = fails_open (search rules) c.in_ok-meta.ensures.reads (opened c.in_err-curators.ensures.reads)

pub returns-in_err-licences-clause-reads : goal.returns-in_err-licences-clause-reads
returns-in_err-licences-clause-reads g c =
    fails_open (search rules) (then_open c.in_ok-meta.ensures.reads (opened c.in_ok-curators.ensures.reads)) (opened c.in_err-licences.ensures.reads)

pub returns-in_err-fixed-clause-reads : goal.returns-in_err-fixed-clause-reads
returns-in_err-fixed-clause-reads g c =
    fails_open (search rules) (then_open (then_open c.in_ok-meta.ensures.reads (opened c.in_ok-curators.ensures.reads)) (opened c.in_ok-licences.ensures.reads)) (opened c.in_err-fixed.ensures.reads)

pub returns-clause-reads : goal.returns-clause-reads
returns-clause-reads g c =
    makes (λ h legal it. record {
      vendor = ap (λ (m : Meta). m.vendor) it.0.0.0;
      name = ap (λ (m : Meta). m.name) it.0.0.0;
      curators = it.0.0.1;
      fixed = it.1;
      allowed = it.0.1.each;
      allowed_count = it.0.1.count;
    })
    (then_open (then_open (then_open c.in_ok-meta.ensures.reads (opened c.in_ok-curators.ensures.reads)) (opened c.in_ok-licences.ensures.reads)) (opened c.in_ok-fixed.ensures.reads))

pub returns-clause-newest : goal.returns-clause-newest
returns-clause-newest g c clean inside =
    c.in_ok-meta.ensures.newest (omega (arith, clean, c.curators_in.ensures.reads.survives.clean, c.licences_in.ensures.reads.survives.clean, c.fixed_in.ensures.reads.survives.clean)) inside
