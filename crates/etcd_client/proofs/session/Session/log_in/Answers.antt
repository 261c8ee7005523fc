use Rattle.std.proofs.Common.{◌≡◌, List, ℕ, Ok, Err, Some, refl, subst}
use Rattle.std.proofs.lemmas.Result.{err_from_is_err_and}
use Rattle.etcd_messages.specs.Answers.{login_reading}
use Rattle.etcd_messages.specs.Faults.{GivesReading}
use Rattle.etcd_client.specs.Sessions.{with_new}
use Rattle.etcd_client.proofs.SessionLemmas.{logged_in, login_unanswered, login_unread}
use Rattle.etcd_client.proofs.session.Session.log_in.Goals as goal

pub returns-clause-ok : goal.returns-clause-ok
returns-clause-ok g c =
    let says = subst (λ (t : List ℕ). login_reading c.in_ok-answer.answer.status t ≡ Ok c.in_ok-token.token) c.deref.ensures.value c.in_ok-token.ensures in
    logged_in g.C.Connection c.args.self.now c.talk.new.self (with_new c.talk.new.self (Some c.in_ok-token.token)) c.args.body.now c.in_ok-answer.answer.body.items c.in_ok-token.token c.in_ok-answer.answer.status
    c.in_ok-answer.ensures.ok says refl

pub returns-in_err-token-clause-err : goal.returns-in_err-token-clause-err
returns-in_err-token-clause-err g c =
    let p = err_from_is_err_and c.from_residual-in_err-token.result c.from_residual-in_err-token.ensures.1 in
    let gives = subst (λ (t : List ℕ). GivesReading (Err c.in_err-token.field-0.0) (login_reading c.in_ok-answer.answer.status t)) c.deref.ensures.value c.in_err-token.ensures in
    rw p.1 (login_unread g.C.Connection c.args.self.now c.talk.new.self c.args.body.now c.in_ok-answer.answer.body.items c.in_ok-answer.answer.status c.in_err-token.field-0.0 p.0
    c.in_ok-answer.ensures.ok gives p.2)

pub returns-in_err-answer-clause-err : goal.returns-in_err-answer-clause-err
returns-in_err-answer-clause-err g c =
    let p = err_from_is_err_and c.from_residual.result c.from_residual.ensures.1 in
    rw (p.1, p.2) (login_unanswered g.C.Connection c.args.self.now c.talk.new.self c.args.body.now c.in_err-answer.field-0.0 c.in_err-answer.ensures.err)
