use Rattle.std.proofs.Common.{inr}
use Rattle.registry_commands.specs.Ends.{sunk}
use Rattle.registry_program.proofs.shared_acts.run_apply_shared.Goals as goal

pub returns : goal.returns
returns g c = inr (record {
  opened = c.open_registry.new.host;
  it = c.in-Ok.registry;
  takes = c.in-Ok.ensures.ok;
  done = c.apply_over-status.new.host;
  after = c.apply_over-status.new.registry;
  errors = sunk g.E.Sink c.apply_over-status.new.errors;
  before = c.apply_over-status.result;
  does = c.apply_over-status.ensures;
  closes = c.close_registry.ensures;
})
