use Rattle.std.proofs.lemmas.Result.{err_from_is_err_and}
use Rattle.etcd_client.proofs.ResultLemmas.{on_value, on_error}
use Rattle.etcd_client.proofs.SessionLemmas.{was_sent, had_no_token, had_no_reply}
use Rattle.etcd_client.proofs.session.Session.send.Goals as goal

pub returns-clause-ok : goal.returns-clause-ok
returns-clause-ok g c =
    on_value c.talk.result _ _ c.talk.ensures.ok
    (λ answer talks. was_sent g.C.Connection c.args.self.now c.get_token.new.self c.talk.new.self c.args.endpoint c.args.body.now answer.body.items answer.status c.in_ok-get_token.ensures.ok talks)

pub returns-clause-err : goal.returns-clause-err
returns-clause-err g c =
    on_error c.talk.result _ _ c.talk.ensures.err
    (λ fault fails. had_no_reply g.C.Connection c.args.self.now c.get_token.new.self c.talk.new.self c.args.endpoint c.args.body.now fault c.in_ok-get_token.ensures.ok fails)

pub returns-in_err-get_token-clause-err : goal.returns-in_err-get_token-clause-err
returns-in_err-get_token-clause-err g c =
    let p = err_from_is_err_and c.from_residual.result c.from_residual.ensures.1 in
    rw (p.1, p.2) (had_no_token g.C.Connection c.args.self.now c.get_token.new.self c.args.endpoint c.args.body.now c.in_err-get_token.field-0.0 c.in_err-get_token.ensures.err)
