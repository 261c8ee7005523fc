use Rattle.std.proofs.Common.{refl, Ok, Err}
use Rattle.registry_commands.proofs.replaying.replay.Goals as goal

pub returns-in-Ok : goal.returns-in-Ok
returns-in-Ok g c = (Ok tt, c.in-Ok.ensures, (refl, refl))

pub returns-in-Err : goal.returns-in-Err
returns-in-Err g c = (Err c.in-Err.stop, c.in-Err.ensures, c.tell_stop.ensures)
