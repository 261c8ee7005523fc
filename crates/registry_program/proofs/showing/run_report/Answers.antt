use Rattle.std.proofs.Common.{inr, refl}
use Rattle.registry_commands.specs.Ends.{sunk}
use Rattle.registry_program.proofs.showing.run_report.Goals as goal

pub returns : goal.returns
returns g c = rw (← c.in-Some.ensures) (inr (record {
  opened = c.open_registry.new.host;
  it = c.in-Ok.registry;
  takes = c.in-Ok.ensures.ok;
  done = c.open_registry.new.host;
  after = c.report-status.new.registry;
  errors = sunk g.E.Sink c.report-status.new.errors;
  before = c.report-status.result;
  does = (refl, c.report-status.ensures);
  closes = c.close_registry.ensures;
}))
