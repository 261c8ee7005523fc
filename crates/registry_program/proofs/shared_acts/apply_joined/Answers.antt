use Rattle.registry_commands.specs.Ends.{sunk}
use Rattle.registry_program.proofs.shared_acts.apply_joined.Goals as goal

pub returns : goal.returns
returns g c = record {
  read = c.answer_lines-end.new.host;
  left = c.answer_lines-end.new.cursor;
  errors = sunk g.E.Sink c.answer_lines-end.new.errors;
  end = c.answer_lines-end.result;
  answers = c.answer_lines-end.ensures;
  tells = λ out. rw c.into_log.ensures at (c.end_acting.ensures out);
}
