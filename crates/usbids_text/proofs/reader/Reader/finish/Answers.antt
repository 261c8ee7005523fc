use Rattle.usbids_text.proofs.FinishLemmas.{finish_stuck, finish_answer}
use Rattle.usbids_text.proofs.reader.Reader.finish.Goals as goal

pub returns-in-Some-clause-answers : goal.returns-in-Some-clause-answers
returns-in-Some-clause-answers c = λ t s. finish_stuck c.args.self t c.in-Some.fault s c.in-Some.is

pub returns-in-Ok-clause-answers : goal.returns-in-Ok-clause-answers
returns-in-Ok-clause-answers c = λ t s. finish_answer c.args.self t c.take_rest.new.self.taken c.finish.result s c.in-Ok.ensures (c.finish.ensures.ok, c.finish.ensures.err)
