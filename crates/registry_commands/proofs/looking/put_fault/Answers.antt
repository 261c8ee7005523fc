use Rattle.std.proofs.Common.{refl}
use Rattle.registry_commands.specs.declared.messages.Failure.TheVariants.{Memory}
use Rattle.registry_commands.proofs.looking.put_fault.Goals as goal

pub returns-in-NoMemory : goal.returns-in-NoMemory
returns-in-NoMemory g c = rw c.in-NoMemory.is (c.fail.ensures.status, (Memory, refl, c.fail.ensures.told))
