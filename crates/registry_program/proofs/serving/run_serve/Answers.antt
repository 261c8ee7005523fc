use Rattle.std.proofs.Common.{inr}
use Rattle.registry_commands.specs.Ends.{sunk}
use Rattle.registry_program.proofs.serving.run_serve.Goals as goal

pub returns : goal.returns
returns g c out = inr (record {
  opened = c.open_registry.new.host;
  it = c.in-Ok.registry;
  takes = c.in-Ok.ensures.ok;
  done = c.serve_port-status.new.host;
  after = c.serve_port-status.new.registry;
  errors = sunk g.E.Sink c.serve_port-status.new.errors;
  before = c.serve_port-status.result;
  does = c.serve_port-status.ensures out;
  closes = c.close_registry.ensures;
})
