use Rattle.std.proofs.Common.{ℕ, List, Option, ap₂, rules}
use Rattle.registry_rules.specs.declared.record.PetitionTimes.{PetitionTimes}
use Rattle.registry_tables.proofs.ReadLemmas.{opened, then_open, fails_first, fails_open, makes, passes_store, open_store}
use Rattle.registry_tables.proofs.keyed.times_at.Goals as goal

pub returns-clause-reads : goal.returns-clause-reads
returns-clause-reads g c =
    let both : Option (List ℕ) → Option (List ℕ) → PetitionTimes = λ opened closed. record { opened = opened; closed = closed } in
    makes (λ h legal it valid. ap₂ both (it.0 valid) (it.1 valid)) (then_open c.in_ok-opened.ensures.reads (opened c.in_ok-closed.ensures.reads))

pub returns-in_err-opened-clause-reads : goal.returns-in_err-opened-clause-reads
returns-in_err-opened-clause-reads g c = fails_first (search rules) c.in_err-opened.ensures.reads

pub returns-in_err-closed-clause-reads : goal.returns-in_err-closed-clause-reads
returns-in_err-closed-clause-reads g c = fails_open (search rules) c.in_ok-opened.ensures.reads (opened c.in_err-closed.ensures.reads)

pub returns-in_err-opened-clause-store : goal.returns-in_err-opened-clause-store
returns-in_err-opened-clause-store g c = passes_store (search rules) c.in_err-opened.ensures.store

pub returns-in_err-closed-clause-store : goal.returns-in_err-closed-clause-store
returns-in_err-closed-clause-store g c = open_store (search rules) (opened c.in_ok-opened.ensures.reads) c.in_err-closed.ensures.reads.survives c.in_err-closed.ensures.store
