use Rattle.std.proofs.Common.{refl}
use Rattle.registry_commands.proofs.ApplyLemmas.{keeps_same}
use Rattle.registry_commands.proofs.looking.put_answer.Goals as goal

pub returns-in-Err : goal.returns-in-Err
returns-in-Err g c = rw c.in-Err.is ((keeps_same _, refl), c.put_fault.ensures)
