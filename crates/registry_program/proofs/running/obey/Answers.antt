use Rattle.registry_commands.specs.Ends.{sunk}
use Rattle.registry_program.proofs.running.obey.Goals as goal

pub returns : goal.returns
returns g c =
    let done = c.perform.ensures.performs in
    record {
      begun = sunk g.E.Sink c.prompt.new.errors;
      prompted = rw (← c.says_causes-verbose.ensures, ← c.is_waited_for.ensures) c.prompt.ensures;
      told = done.0;
      performs = done.1;
      whole = done.2;
      explained = rw (← c.says_causes-verbose.ensures) done.3;
    }
