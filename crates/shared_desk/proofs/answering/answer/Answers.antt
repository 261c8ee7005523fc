use Rattle.std.proofs.lemmas.Result.{IfOk-weaker}
use Rattle.shared_registry.proofs.AskLemmas.{asked_nothing}
use Rattle.shared_desk.specs.Asks.{AppendsOrder}
use Rattle.shared_desk.proofs.AnswerLemmas.{refused_answered}
use Rattle.shared_desk.proofs.answering.answer.Goals as goal

pub returns-in-Ok-clause-ok : goal.returns-in-Ok-clause-ok
returns-in-Ok-clause-ok g c lines kept h follows clean of = rw c.in-Ok.is (c.answer_message.ensures.ok lines kept h follows clean of)

pub returns-in-Ok-clause-err : goal.returns-in-Ok-clause-err
returns-in-Ok-clause-err g c lines kept h follows clean = rw c.in-Ok.is (c.answer_message.ensures.err lines kept h follows clean)

pub returns-in-Err-clause-ok : goal.returns-in-Err-clause-ok
returns-in-Err-clause-ok g c lines kept h follows clean of =
    rw c.in-Err.is (IfOk-weaker c.refuse.result _ _ (λ response is. refused_answered g.L.Log lines c.args.cursor.now h c.args.registry.now c.in-Err.refusal response c.args.cache.now follows of is) c.refuse.ensures.ok)

pub returns-in-Ok-clause-asks : goal.returns-in-Ok-clause-asks
returns-in-Ok-clause-asks g c lines kept h follows clean = rw c.in-Ok.is (c.answer_message.ensures.asks lines kept h follows clean)

pub returns-in-Err-clause-asks : goal.returns-in-Err-clause-asks
returns-in-Err-clause-asks g c lines kept h follows clean = asked_nothing g.L.Log (AppendsOrder (lines c.args.cursor.now.log) h c.args.said.now) c.args.cursor.now.log
