use Rattle.std.proofs.Common.{inr}
use Rattle.registry_commands.specs.Ends.{sunk}
use Rattle.registry_program.proofs.dry_runs.run_import_check.Goals as goal

pub returns : goal.returns
returns g c = rw c.in-Ok.is (inr (record {
  opened = c.open_registry.new.host;
  it = c.in-Ok-open_registry.registry;
  takes = c.in-Ok-open_registry.ensures.ok;
  done = c.try_file-status.new.host;
  after = c.try_file-status.new.registry;
  errors = sunk g.E.Sink c.try_file-status.new.errors;
  before = c.try_file-status.result;
  does = c.try_file-status.ensures;
  closes = c.close_registry.ensures;
}))
