use Rattle.std.proofs.Common.{refl}
use Rattle.std.specs.Prelude.{Ok, Err}
use Rattle.registry_commands.specs.Ends.{sunk}
use Rattle.registry_program.proofs.founding.run_found.Goals as goal

pub returns-in-Ok : goal.returns-in-Ok
returns-in-Ok g c out = record {
  read = c.founding_at.new.host;
  errors = sunk g.E.Sink c.founding_at.new.errors;
  first = Ok c.in-Ok.founding;
  reads = c.in-Ok.ensures;
  goes_on = c.found_on.ensures out;
}

pub returns-in-Err : goal.returns-in-Err
returns-in-Err g c out = record {
  read = c.founding_at.new.host;
  errors = sunk g.E.Sink c.founding_at.new.errors;
  first = Err c.in-Err.status;
  reads = c.in-Err.ensures;
  goes_on = (refl, refl, refl, refl);
}
