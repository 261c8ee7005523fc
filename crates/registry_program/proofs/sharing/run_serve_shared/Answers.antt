use Rattle.std.proofs.Common.{inr}
use Rattle.registry_commands.specs.Ends.{sunk}
use Rattle.registry_program.proofs.sharing.run_serve_shared.Goals as goal

pub returns : goal.returns
returns g c out = inr (record {
  opened = c.open_registry.new.host;
  it = c.in-Ok.registry;
  takes = c.in-Ok.ensures.ok;
  done = c.serve_over-status.new.host;
  after = c.serve_over-status.new.registry;
  errors = sunk g.E.Sink c.serve_over-status.new.errors;
  before = c.serve_over-status.result;
  does = c.serve_over-status.ensures out;
  closes = c.close_registry.ensures;
})
