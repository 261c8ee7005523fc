use Rattle.registry_schema.proofs.StepLemmas.{then_blank}
use Rattle.registry_schema.proofs.first.create_first.Goals as goal

pub returns : goal.returns
returns g c = record { writes = then_blank c.in_ok-create_meta.ensures.writes (then_blank c.in_ok-create_curators.ensures.writes (then_blank c.in_ok-create_licences.ensures.writes (then_blank c.in_ok-create_fixed.ensures.writes (then_blank c.in_ok-create_orgs.ensures.writes (then_blank c.in_ok-create_petitions.ensures.writes (then_blank c.in_ok-create_entries.ensures.writes (then_blank c.in_ok-create_reserved.ensures.writes c.create_kept.ensures.writes))))))) }
