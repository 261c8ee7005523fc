use Rattle.std.proofs.Common.{inl, inr, refl}
use Rattle.std.specs.Prelude.{Ok, Err}
use Rattle.registry_commands.specs.Ends.{sunk}
use Rattle.registry_program.proofs.shared_replay.replay_to.Goals as goal

pub returns-in-Ok-found_or_open : goal.returns-in-Ok-found_or_open
returns-in-Ok-found_or_open g c out = inr (record {
  opened = c.connect.new.host;
  conn = c.in-Ok.conn;
  connected = c.in-Ok.ensures.ok;
  done = c.replay_at-status.new.host;
  left = Ok c.replay_at-status.new.registry;
  errors = sunk g.E.Sink c.replay_at-status.new.errors;
  before = c.replay_at-status.result;
  replays = (c.in-Ok-found_or_open.registry, c.in-Ok-found_or_open.ensures.ok, c.replay_at-status.ensures out);
  closes = c.close_registry.ensures;
})

pub returns-in-Err-found_or_open : goal.returns-in-Err-found_or_open
returns-in-Err-found_or_open g c out = inr (record {
  opened = c.connect.new.host;
  conn = c.in-Ok.conn;
  connected = c.in-Ok.ensures.ok;
  done = c.connect.new.host;
  left = Err c.in-Err-found_or_open.conn;
  errors = sunk g.E.Sink c.fail-status.new.errors;
  before = c.fail-status.result;
  replays = (c.in-Err-found_or_open.failure, c.in-Err-found_or_open.ensures.err, refl, (refl, c.fail-status.ensures.status, c.fail-status.ensures.told));
  closes = c.close_connection.ensures;
})

pub returns-in-Err : goal.returns-in-Err
returns-in-Err g c out = inl (c.in-Err.failure, c.in-Err.ensures.err, (refl, c.fail.ensures.status, c.fail.ensures.told))
