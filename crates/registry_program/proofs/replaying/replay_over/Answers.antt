use Rattle.std.proofs.Common.{inr, refl}
use Rattle.registry_commands.specs.Ends.{sunk}
use Rattle.registry_program.proofs.replaying.replay_over.Goals as goal

pub returns : goal.returns
returns g c out = inr (record {
  opened = c.open_registry.new.host;
  it = c.in-Ok.registry;
  takes = c.in-Ok.ensures.ok;
  done = c.open_registry.new.host;
  after = c.replay-status.new.registry;
  errors = sunk g.E.Sink c.replay-status.new.errors;
  before = c.replay-status.result;
  does = (refl, refl, c.replay-status.new.unread, c.replay-status.ensures);
  closes = c.close_registry.ensures;
})
