use Rattle.std.proofs.Common.{refl}
use Rattle.registry_commands.proofs.ApplyLemmas.{keeps_same}
use Rattle.registry_commands.proofs.looking.put_found.Goals as goal

pub returns-in-None : goal.returns-in-None
returns-in-None g c = rw c.in-None.is (refl, (keeps_same _, refl), c.tell.ensures.told)
