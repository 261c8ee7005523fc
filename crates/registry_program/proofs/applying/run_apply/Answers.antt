use Rattle.std.proofs.Common.{inr}
use Rattle.registry_commands.specs.Ends.{sunk}
use Rattle.registry_program.proofs.applying.run_apply.Goals as goal

pub returns : goal.returns
returns g c = inr (record {
  opened = c.open_registry.new.host;
  it = c.in-Ok.registry;
  takes = c.in-Ok.ensures.ok;
  done = c.apply_file-status.new.host;
  after = c.apply_file-status.new.registry;
  errors = sunk g.E.Sink c.apply_file-status.new.errors;
  before = c.apply_file-status.result;
  does = c.apply_file-status.ensures;
  closes = c.close_registry.ensures;
})
