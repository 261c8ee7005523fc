use Rattle.std.proofs.Common.{inr}
use Rattle.registry_commands.specs.Ends.{sunk}
use Rattle.registry_program.proofs.shared_acts.run_import_shared.Goals as goal

pub returns : goal.returns
returns g c = rw c.in-Ok.is (inr (record {
  opened = c.open_registry.new.host;
  it = c.in-Ok-open_registry.registry;
  takes = c.in-Ok-open_registry.ensures.ok;
  done = c.import_over-status.new.host;
  after = c.import_over-status.new.registry;
  errors = sunk g.E.Sink c.import_over-status.new.errors;
  before = c.import_over-status.result;
  does = c.import_over-status.ensures;
  closes = c.close_registry.ensures;
}))
