use Rattle.std.proofs.Common.{option_and_then, ap, sym, ◌∙◌}
use Rattle.std.specs.Option.{option_copied}
use Rattle.registry_rules.specs.Query.{org_of}
use Rattle.registry_tables.proofs.ReadLemmas.{opened, rows_tell, rows_store}
use Rattle.registry_tables.proofs.facts.org_for.Goals as goal

pub returns-in-Some-clause-reads : goal.returns-in-Some-clause-reads
returns-in-Some-clause-reads g c =
    opened (rows_tell (λ h t legal has had found is. is ∙ had.orgs.each c.in-Some.slug.now ∙ sym (ap (λ o. option_and_then (org_of h) (option_copied o)) c.in-Some.is)) c.find_org.ensures.reads)

pub returns-in-Some-clause-store : goal.returns-in-Some-clause-store
returns-in-Some-clause-store g c = rows_store c.find_org.ensures.reads
