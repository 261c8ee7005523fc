use Rattle.std.proofs.Common.{inl, inr}
use Rattle.registry_program.proofs.shared_replay.run_replay_shared.Goals as goal

pub returns : goal.returns
returns g c out = inr (c.in-Ok.founding, c.read_founding_at.new.host, c.in-Ok.ensures.ok.0, rw c.in-Ok.ensures.ok.1 at (c.replay_to.ensures out))

pub returns-in-Err : goal.returns-in-Err
returns-in-Err g c out = inl (c.in-Err.ensures.err out)
