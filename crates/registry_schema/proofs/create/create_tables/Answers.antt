use Rattle.std.proofs.Common.{refl}
use Rattle.registry_schema.proofs.StepLemmas.{then_blank, more_blank}
use Rattle.registry_schema.proofs.create.create_tables.Goals as goal

pub returns : goal.returns
returns g c = record { writes = then_blank c.in_ok-create_first.ensures.writes (then_blank (more_blank refl c.in_ok-add_second.ensures.writes) (then_blank (more_blank refl c.in_ok-add_third.ensures.writes) (then_blank (more_blank refl c.in_ok-add_fourth.ensures.writes) (more_blank refl c.in_ok-add_fifth.ensures.writes)))) }
