use Rattle.registry_schema.proofs.TextLemmas.{makes_kept}
use Rattle.registry_schema.proofs.StepLemmas.{makes_blank}
use Rattle.registry_schema.proofs.first.create_kept.Goals as goal

pub returns : goal.returns
returns g c = record { writes = makes_blank c.execute.ensures.same_reference c.execute.ensures.survives makes_kept c.in_ok-execute.field-0 c.in_ok-execute.ensures.runs }
