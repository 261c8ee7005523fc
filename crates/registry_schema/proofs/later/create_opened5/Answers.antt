use Rattle.std.proofs.Common.{refl}
use Rattle.registry_schema.proofs.TextLemmas.{makes_opened5}
use Rattle.registry_schema.proofs.StepLemmas.{makes_one}
use Rattle.registry_schema.proofs.later.create_opened5.Goals as goal

pub returns : goal.returns
returns g c = record { writes = makes_one c.execute.ensures.same_reference c.execute.ensures.survives makes_opened5 c.in_ok-execute.field-0 c.in_ok-execute.ensures.runs refl }
