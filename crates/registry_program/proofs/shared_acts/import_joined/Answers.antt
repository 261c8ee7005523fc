use Rattle.registry_commands.specs.Ends.{sunk}
use Rattle.registry_program.proofs.shared_acts.import_joined.Goals as goal

pub returns : goal.returns
returns g c = record {
  read = c.answer_list-end.new.host;
  left = c.answer_list-end.new.cursor;
  errors = sunk g.E.Sink c.answer_list-end.new.errors;
  end = c.answer_list-end.result;
  answers = c.answer_list-end.ensures;
  tells = λ out. rw c.into_log.ensures at (c.end_acting.ensures out);
}
