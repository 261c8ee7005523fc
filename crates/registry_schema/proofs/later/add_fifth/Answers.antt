use Rattle.std.proofs.Common.{refl}
use Rattle.registry_schema.proofs.StepLemmas.{then_more}
use Rattle.registry_schema.proofs.later.add_fifth.Goals as goal

pub returns : goal.returns
returns g c = record { writes = then_more refl c.in_ok-create_opened5.ensures.writes c.in_ok-create_closed5.ensures.writes }
