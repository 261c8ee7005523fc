use Rattle.std.proofs.Common.{◌≡◌, Some}
use Rattle.etcd_client.specs.Sessions.{login_of, LogsIn, LoginFails, GetsToken, TokenFails}
use Rattle.etcd_client.proofs.ResultLemmas.{on_value, on_error}
use Rattle.etcd_client.proofs.SessionLemmas.{token_taken, login_failed}
use Rattle.etcd_client.proofs.session.Session.get_token.Goals as goal

pub returns-in-Some-clause-ok : goal.returns-in-Some-clause-ok
returns-in-Some-clause-ok g c =
    let made = rw c.in-Some.is at c.in_ok-text.ensures in
    let user : login_of c.args.self.now ≡ Some c.as_str.result.now = cc (made, c.as_ref.ensures.value, c.as_str.ensures.value) in
    on_value c.log_in.result (λ _. LogsIn g.C.Connection c.args.self.now c.log_in.new.self c.as_str.result.now) (λ _. GetsToken g.C.Connection c.args.self.now c.log_in.new.self) c.log_in.ensures.ok
    (λ _ logs_in. token_taken g.C.Connection c.args.self.now c.log_in.new.self c.is_some.result c.as_str.result.now c.is_some.ensures c.if-is_some.false user logs_in)

pub returns-in-Some-clause-err : goal.returns-in-Some-clause-err
returns-in-Some-clause-err g c =
    let made = rw c.in-Some.is at c.in_ok-text.ensures in
    let user : login_of c.args.self.now ≡ Some c.as_str.result.now = cc (made, c.as_ref.ensures.value, c.as_str.ensures.value) in
    on_error c.log_in.result (LoginFails g.C.Connection c.args.self.now c.log_in.new.self c.as_str.result.now) (TokenFails g.C.Connection c.args.self.now c.log_in.new.self) c.log_in.ensures.err
    (λ fault fails. login_failed g.C.Connection c.args.self.now c.log_in.new.self c.is_some.result c.as_str.result.now fault c.is_some.ensures c.if-is_some.false user fails)
