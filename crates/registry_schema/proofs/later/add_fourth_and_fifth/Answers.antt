use Rattle.std.proofs.Common.{refl}
use Rattle.registry_schema.proofs.StepLemmas.{then_more}
use Rattle.registry_schema.proofs.later.add_fourth_and_fifth.Goals as goal

pub returns : goal.returns
returns g c = record { writes = then_more refl c.in_ok-add_fourth.ensures.writes c.in_ok-add_fifth.ensures.writes }
