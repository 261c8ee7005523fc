use Rattle.std.proofs.Common.{◌≡◌}
use Rattle.std.proofs.lemmas.Result.{err_from_is_err_and}
use Rattle.etcd_messages.specs.declared.endpoint.Endpoint.TheVariants as endpoints
use Rattle.etcd_messages.specs.Answers.{page_reading}
use Rattle.etcd_client.specs.Logs.{page_body}
use Rattle.etcd_client.proofs.GetsLemmas.{got_unanswered, got_unread}
use Rattle.etcd_client.proofs.calls.page.Goals as goal

pub returns-in_err-read_page-clause-err : goal.returns-in_err-read_page-clause-err
returns-in_err-read_page-clause-err g c =
    let p = err_from_is_err_and c.from_residual-in_err-read_page.result c.from_residual-in_err-read_page.ensures.1 in
    let sent : c.as_str.result.now ≡ page_body c.args.name.now c.args.n = cc (c.as_str.ensures.value, c.in_ok-request.ensures) in
    rw p.1 (got_unread g.C.Connection c.args.session.now c.ask.new.self endpoints.Read c.as_str.result.now (page_body c.args.name.now c.args.n) c.deref.result.now c.in_ok-answer.answer.body.items c.in_ok-answer.answer.status (page_reading c.args.name.now c.args.n)
    c.in_err-read_page.field-0.0 p.0 c.in_ok-answer.ensures.ok sent c.in_err-read_page.ensures c.deref.ensures.value p.2)

pub returns-in_err-answer-clause-err : goal.returns-in_err-answer-clause-err
returns-in_err-answer-clause-err g c =
    let p = err_from_is_err_and c.from_residual-in_err-answer.result c.from_residual-in_err-answer.ensures.1 in
    let sent : c.as_str.result.now ≡ page_body c.args.name.now c.args.n = cc (c.as_str.ensures.value, c.in_ok-request.ensures) in
    rw (p.1, p.2) (got_unanswered g.C.Connection c.args.session.now c.ask.new.self endpoints.Read c.as_str.result.now (page_body c.args.name.now c.args.n) (page_reading c.args.name.now c.args.n) c.in_err-answer.field-0.0 c.in_err-answer.ensures.err sent)
