use Rattle.std.proofs.Common.{refl}
use Rattle.registry_commands.proofs.replaying.replay_on.Goals as goal

pub returns-in-Ok : goal.returns-in-Ok
returns-in-Ok g c = (c.in-Ok.registry, c.in-Ok.ensures.ok, c.replay-status.ensures)

pub returns-in-Err : goal.returns-in-Err
returns-in-Err g c = (c.in-Err.failure, c.in-Err.ensures.err, c.fail.ensures.status, c.fail.ensures.told, refl, c.in-Err.ensures.named)
