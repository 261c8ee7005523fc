use Rattle.std.proofs.Common.{◌≡◌, false, refl}
use Rattle.std.proofs.lemmas.Result.{err_from_is_err_and}
use Rattle.etcd_client.specs.Messages.{request_text}
use Rattle.etcd_client.proofs.SessionLemmas.{got_no_answer}
use Rattle.etcd_client.proofs.session.Session.talk.Goals as goal

pub returns-in_err-answer-clause-err : goal.returns-in_err-answer-clause-err
returns-in_err-answer-clause-err g c =
    let p = err_from_is_err_and c.from_residual-in_err-answer.result c.from_residual-in_err-answer.ensures.1 in
    let made : c.as_bytes.result.now ≡ request_text c.args.endpoint c.args.self.now.host c.args.self.now.token c.args.body.now = cc (c.as_bytes.ensures.value, c.in_ok-text.ensures, c.as_ref.ensures.value) in
    rw p.1 (got_no_answer g.C.Connection c.args.self.now (record c.args.self.now { connection = c.exchange.new.connection; is_kept = false }) c.args.endpoint c.args.body.now c.as_bytes.result.now c.in_err-answer.field-0.0 p.0
    made c.in_err-answer.ensures.err p.2 refl)
