use Rattle.std.proofs.Common.{ap, inl, inr, refl}
use Rattle.std.specs.Prelude.{Ok}
use Rattle.std.proofs.lemmas.Result.{IfErr-weaker}
use Rattle.shared_registry.specs.Asks.{AppendsRequest}
use Rattle.shared_registry.proofs.AskLemmas.{asked_anyway, asked_weaker}
use Rattle.shared_desk.specs.Asks.{AppendsOrder}
use Rattle.shared_desk.proofs.answering.answer_message.Goals as goal

pub returns-in-Query-clause-ok : goal.returns-in-Query-clause-ok
returns-in-Query-clause-ok g c lines kept h follows clean of = rw c.in-Query.is (c.answer_after_following.ensures.ok lines kept h follows clean of)

pub returns-in-Query-clause-err : goal.returns-in-Query-clause-err
returns-in-Query-clause-err g c lines kept h follows clean = rw c.in-Query.is (c.answer_after_following.ensures.err lines kept h follows clean)

pub returns-in-Request-clause-ok : goal.returns-in-Request-clause-ok
returns-in-Request-clause-ok g c lines kept h follows clean of = rw c.in-Request.is (c.act_on_order.ensures.ok lines kept h follows clean of)

pub returns-in-Request-clause-err : goal.returns-in-Request-clause-err
returns-in-Request-clause-err g c lines kept h follows clean = IfErr-weaker c.act_on_order.result _ _ (λ stop left. inl (left, inr refl)) (c.act_on_order.ensures.err lines kept h follows clean)

pub returns-in-Query-clause-asks : goal.returns-in-Query-clause-asks
returns-in-Query-clause-asks g c lines kept h follows clean = asked_anyway g.L.Log (AppendsOrder (lines c.answer_after_following.new.cursor.log) h (Ok c.args.message.now)) c.args.cursor.now.log c.answer_after_following.new.cursor.log c.answer_after_following.ensures.asks

pub returns-in-Request-clause-asks : goal.returns-in-Request-clause-asks
returns-in-Request-clause-asks g c lines kept h follows clean =
    asked_weaker g.L.Log (AppendsRequest (lines c.act_on_order.new.cursor.log) h c.in-Request.request) (AppendsOrder (lines c.act_on_order.new.cursor.log) h (Ok c.args.message.now)) (λ n line it. (c.in-Request.request, ap Ok c.in-Request.is, it))
    c.args.cursor.now.log c.act_on_order.new.cursor.log (c.act_on_order.ensures.asks lines kept h follows clean)
