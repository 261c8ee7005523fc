use Rattle.std.proofs.Common.{refl}
use Rattle.registry_program.proofs.following.end_acting.Goals as goal

pub returns-in-Ok : goal.returns-in-Ok
returns-in-Ok g c out = rw c.in-Ok.is (c.close_log.ensures, refl, refl)

pub returns-in-Err : goal.returns-in-Err
returns-in-Err g c out = rw c.in-Err.is (c.leave_log.ensures, c.fail_by.ensures out)
