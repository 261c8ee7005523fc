use Rattle.std.proofs.Common.{inr, refl}
use Rattle.registry_commands.specs.declared.messages.Failure.TheVariants.{Memory}
use Rattle.registry_commands.proofs.found.founding_in.Goals as goal

pub returns-in-Err-NoMemory : goal.returns-in-Err-NoMemory
returns-in-Err-NoMemory g c = inr (c.fail.ensures.status, (Memory, refl, c.fail.ensures.told))
