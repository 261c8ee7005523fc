use Rattle.std.proofs.lemmas.Result.{err_from_is_err_and}
use Rattle.registry_rules.specs.Run.{after_one}
use Rattle.registry_desk.proofs.AskLemmas.{left_second, was_done}
use Rattle.registry_desk.proofs.acting.respond_to_order.Goals as goal

-- the request has taken effect, and memory ran out for its response
pub returns-in_err-reply_response-clause-left : goal.returns-in_err-reply_response-clause-left
returns-in_err-reply_response-clause-left g c h stands clean =
    let p = err_from_is_err_and c.from_residual-in_err-reply_response.result c.from_residual-in_err-reply_response.ensures.1 in
    let done = rw (was_done c.act.result c.map_err.result c.in_ok-reply.reply c.map_err.ensures.cases c.in_ok-reply.was) at (c.act.ensures.answered h stands clean) in
    rw (p.1, p.2) (tt, tt, left_second c.act.new.self h (after_one h c.args.request.now) done.1 clean)
