use Rattle.std.proofs.Common.{inr, refl}
use Rattle.registry_commands.specs.Ends.{sunk}
use Rattle.registry_program.proofs.founding.found_on.Goals as goal

pub returns : goal.returns
returns g c out = inr (record {
  opened = c.connect.new.host;
  conn = c.in-Ok.conn;
  connected = c.in-Ok.ensures.ok;
  last = c.found_registry-status.result.1;
  errors = sunk g.E.Sink c.found_registry-status.new.errors;
  before = c.found_registry-status.result.0;
  tried = c.found_registry-status.ensures;
  silent = refl;
  closes = c.close_connection.ensures;
})
