use Rattle.std.proofs.Common.{inr, refl}
use Rattle.registry_commands.specs.Ends.{sunk}
use Rattle.registry_program.proofs.checking.run_check.Goals as goal

pub returns : goal.returns
returns g c = inr (record {
  opened = c.open_registry.new.host;
  it = c.in-Ok.registry;
  takes = c.in-Ok.ensures.ok;
  done = c.open_registry.new.host;
  after = c.check-status.new.registry;
  errors = sunk g.E.Sink c.check-status.new.errors;
  before = c.check-status.result;
  does = (refl, c.check-status.ensures);
  closes = c.close_registry.ensures;
})
