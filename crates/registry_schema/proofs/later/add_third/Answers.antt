use Rattle.std.proofs.Common.{refl}
use Rattle.registry_schema.proofs.StepLemmas.{then_more}
use Rattle.registry_schema.proofs.later.add_third.Goals as goal

pub returns : goal.returns
returns g c = record { writes = then_more refl c.in_ok-create_vendors.ensures.writes (then_more refl c.in_ok-create_spans3.ensures.writes (then_more refl c.in_ok-create_entries3.ensures.writes c.in_ok-create_petitions3.ensures.writes)) }
