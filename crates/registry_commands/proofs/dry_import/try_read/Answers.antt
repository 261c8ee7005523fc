use Rattle.std.proofs.Common.{refl}
use Rattle.registry_commands.proofs.ApplyLemmas.{keeps_same}
use Rattle.registry_commands.proofs.dry_import.try_read.Goals as goal

pub returns-in-Ok : goal.returns-in-Ok
returns-in-Ok g c = rw c.in-Ok.is c.try_document.ensures

pub returns-in-Err : goal.returns-in-Err
returns-in-Err g c = rw c.in-Err.is (refl, (keeps_same _, refl), c.put_fault.ensures)
