use Rattle.std.proofs.Common.{refl}
use Rattle.registry_tables.proofs.head.founded_head.Goals as goal

pub returns-in-Ok-clause-head : goal.returns-in-Ok-clause-head
returns-in-Ok-clause-head c valid = record { count = refl; digest = c.in-Ok.ensures; time = refl }
