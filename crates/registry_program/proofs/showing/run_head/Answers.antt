use Rattle.std.proofs.Common.{inr, refl}
use Rattle.registry_commands.specs.Ends.{sunk}
use Rattle.registry_program.proofs.showing.run_head.Goals as goal

pub returns : goal.returns
returns g c = inr (record {
  opened = c.open_registry.new.host;
  it = c.in-Ok.registry;
  takes = c.in-Ok.ensures.ok;
  done = c.open_registry.new.host;
  after = c.in-Ok.registry;
  errors = sunk g.E.Sink c.head-status.new.errors;
  before = c.head-status.result;
  does = (refl, refl, c.head-status.ensures);
  closes = c.close_registry.ensures;
})
