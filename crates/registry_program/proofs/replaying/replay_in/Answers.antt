use Rattle.std.proofs.Common.{inr, refl}
use Rattle.registry_commands.specs.Ends.{sunk}
use Rattle.registry_program.proofs.replaying.replay_in.Goals as goal

pub returns : goal.returns
returns g c out = inr (record {
  opened = c.connect.new.host;
  conn = c.in-Ok.conn;
  connected = c.in-Ok.ensures.ok;
  left = c.replay_on-status.result.1;
  errors = sunk g.E.Sink c.replay_on-status.new.errors;
  before = c.replay_on-status.result.0;
  ended = c.replay_on-status.new.unread;
  replays = c.replay_on-status.ensures;
  silent = refl;
  closes = c.close_left.ensures;
})
