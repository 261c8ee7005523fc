use Rattle.std.proofs.Common.{None, refl}
use Rattle.std.proofs.lemmas.Result.{err_from_is_err_and}
use Rattle.etcd_client.specs.Sessions.{with_new}
use Rattle.etcd_client.proofs.ResultLemmas.{on_value, on_error}
use Rattle.etcd_client.proofs.SessionLemmas.{was_refused, asked_again, failed_at_once, failed_again}
use Rattle.etcd_client.proofs.session.Session.ask.Goals as goal

pub returns-in_err-answer-clause-err : goal.returns-in_err-answer-clause-err
returns-in_err-answer-clause-err g c =
    let p = err_from_is_err_and c.from_residual.result c.from_residual.ensures.1 in
    rw (p.1, p.2) (failed_at_once g.C.Connection c.args.self.now c.send.new.self c.args.endpoint c.args.body.now c.in_err-answer.field-0.0 c.in_err-answer.ensures.err)

pub returns-clause-ok : goal.returns-clause-ok
returns-clause-ok g c =
    let first = was_refused g.C.Connection c.args.self.now c.send.new.self (with_new c.send.new.self None) c.args.endpoint c.args.body.now c.in_ok-answer.answer.body.items c.in_ok-answer.answer.status c.is_refused.result
    c.in_ok-answer.ensures.ok c.is_refused.ensures c.if-not-is_refused.false refl in
    on_value c.send-2.result _ _ c.send-2.ensures.ok
    (λ answer sends. asked_again g.C.Connection c.args.self.now (with_new c.send.new.self None) c.send-2.new.self c.args.endpoint c.args.body.now answer.body.items answer.status first sends)

pub returns-clause-err : goal.returns-clause-err
returns-clause-err g c =
    let first = was_refused g.C.Connection c.args.self.now c.send.new.self (with_new c.send.new.self None) c.args.endpoint c.args.body.now c.in_ok-answer.answer.body.items c.in_ok-answer.answer.status c.is_refused.result
    c.in_ok-answer.ensures.ok c.is_refused.ensures c.if-not-is_refused.false refl in
    on_error c.send-2.result _ _ c.send-2.ensures.err
    (λ fault fails. failed_again g.C.Connection c.args.self.now (with_new c.send.new.self None) c.send-2.new.self c.args.endpoint c.args.body.now fault first fails)
