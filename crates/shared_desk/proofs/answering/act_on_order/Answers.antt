use Rattle.std.proofs.lemmas.Result.{err_from_is_err_and}
use Rattle.shared_desk.proofs.AnswerLemmas.{order_answered, order_unanswered}
use Rattle.shared_desk.proofs.answering.act_on_order.Goals as goal

pub returns-clause-ok : goal.returns-clause-ok
returns-clause-ok g c lines kept h follows clean of =
    order_answered g.L.Log lines c.args.cursor.now h c.act.new.registry c.act.new.cursor c.args.request.now c.in_ok-reply.reply c.in_ok-reply_response.field-0 c.args.cache.now c.drop_if_moved.new.cache
    (c.in_ok-reply.ensures.ok lines kept h follows clean) c.in_ok-reply_response.ensures follows.next of (rw c.next-before.ensures at c.drop_if_moved.ensures)

pub returns-in_err-reply_response-clause-err : goal.returns-in_err-reply_response-clause-err
returns-in_err-reply_response-clause-err g c lines kept h follows clean =
    let p = err_from_is_err_and c.from_residual-in_err-reply_response.result c.from_residual-in_err-reply_response.ensures.1 in
    rw (p.1, p.2) (order_unanswered g.L.Log lines c.args.cursor.now h c.act.new.registry c.act.new.cursor c.args.request.now c.in_ok-reply.reply (c.in_ok-reply.ensures.ok lines kept h follows clean))

pub returns-clause-asks : goal.returns-clause-asks
returns-clause-asks g c = c.act.ensures.asks

pub returns-in_err-reply_response-clause-asks : goal.returns-in_err-reply_response-clause-asks
returns-in_err-reply_response-clause-asks g c = c.act.ensures.asks

pub returns-in_err-reply-clause-asks : goal.returns-in_err-reply-clause-asks
returns-in_err-reply-clause-asks g c = c.act.ensures.asks
