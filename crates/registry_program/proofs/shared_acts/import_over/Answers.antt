use Rattle.std.proofs.Common.{inl, inr, refl}
use Rattle.registry_commands.specs.Ends.{sunk}
use Rattle.registry_program.proofs.shared_acts.import_over.Goals as goal

pub returns-in-Ok : goal.returns-in-Ok
returns-in-Ok g c = inr (record {
  found = c.join_at.new.host;
  middle = c.join_at.new.registry;
  cursor = c.in-Ok.cursor;
  taken = c.in-Ok.ensures.ok.0;
  does = rw c.in-Ok.ensures.ok.1 at c.import_joined.ensures;
})

pub returns-in-Err : goal.returns-in-Err
returns-in-Err g c = inl (c.in-Err.ensures.err (sunk g.W.Sink c.args.output.now), refl)
