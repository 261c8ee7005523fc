use Rattle.std.proofs.Common.{option_and_then, ap, sym, ◌∙◌}
use Rattle.registry_rules.specs.Query.{petition_of}
use Rattle.registry_tables.proofs.ReadLemmas.{opened, reads_as}
use Rattle.registry_tables.proofs.facts.petition_for.Goals as goal

pub returns-in-Some-clause-reads : goal.returns-in-Some-clause-reads
returns-in-Some-clause-reads g c =
    opened (reads_as (λ h found legal is. is ∙ sym (c.petition_concerned.ensures h ∙ ap (option_and_then (petition_of h)) c.in-Some.is)) c.petition_at.ensures.reads)
