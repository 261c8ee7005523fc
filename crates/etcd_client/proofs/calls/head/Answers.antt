use Rattle.std.proofs.Common.{◌≡◌}
use Rattle.std.proofs.lemmas.Result.{err_from_is_err_and}
use Rattle.etcd_messages.specs.declared.endpoint.Endpoint.TheVariants as endpoints
use Rattle.etcd_messages.specs.Answers.{log_head_reading}
use Rattle.etcd_client.specs.Logs.{head_body}
use Rattle.etcd_client.proofs.GetsLemmas.{got_unanswered, got_unread}
use Rattle.etcd_client.proofs.calls.head.Goals as goal

pub returns-in_err-read_head-clause-err : goal.returns-in_err-read_head-clause-err
returns-in_err-read_head-clause-err g c =
    let p = err_from_is_err_and c.from_residual-in_err-read_head.result c.from_residual-in_err-read_head.ensures.1 in
    let sent : c.as_str.result.now ≡ head_body c.args.name.now = cc (c.as_str.ensures.value, c.in_ok-request.ensures) in
    rw p.1 (got_unread g.C.Connection c.args.session.now c.ask.new.self endpoints.Read c.as_str.result.now (head_body c.args.name.now) c.deref.result.now c.in_ok-answer.answer.body.items c.in_ok-answer.answer.status (log_head_reading c.args.name.now)
    c.in_err-read_head.field-0.0 p.0 c.in_ok-answer.ensures.ok sent c.in_err-read_head.ensures c.deref.ensures.value p.2)

pub returns-in_err-answer-clause-err : goal.returns-in_err-answer-clause-err
returns-in_err-answer-clause-err g c =
    let p = err_from_is_err_and c.from_residual-in_err-answer.result c.from_residual-in_err-answer.ensures.1 in
    let sent : c.as_str.result.now ≡ head_body c.args.name.now = cc (c.as_str.ensures.value, c.in_ok-request.ensures) in
    rw (p.1, p.2) (got_unanswered g.C.Connection c.args.session.now c.ask.new.self endpoints.Read c.as_str.result.now (head_body c.args.name.now) (log_head_reading c.args.name.now) c.in_err-answer.field-0.0 c.in_err-answer.ensures.err sent)
