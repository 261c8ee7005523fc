use Rattle.std.proofs.Common.{inl, inr}
use Rattle.registry_program.proofs.shared_replay.replay_at.Goals as goal

pub returns-in-Ok : goal.returns-in-Ok
returns-in-Ok g c out = inr (record {
  found = c.join_at.new.host;
  middle = c.join_at.new.registry;
  cursor = c.in-Ok.cursor;
  taken = c.in-Ok.ensures.ok.0;
  does = rw c.in-Ok.ensures.ok.1 at (c.replay_joined.ensures out);
})

pub returns-in-Err : goal.returns-in-Err
returns-in-Err g c out = inl (c.in-Err.ensures.err out)
