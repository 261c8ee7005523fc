use Rattle.std.proofs.Common.{refl, ap}
use Rattle.std.specs.Prelude.{Err}
use Rattle.std.proofs.lemmas.Result.{err_from_is_err_and}
use Rattle.registry_commands.specs.Ends.{sunk}
use Rattle.shared_commands.proofs.answering.answer.Goals as goal

pub returns-clause-ok : goal.returns-clause-ok
returns-clause-ok g c lines kept h follows clean = record {
  reply = c.in_ok-reply.reply;
  answered = c.in_ok-reply.ensures.ok lines kept h follows clean;
  written = c.in_ok-put_reply.ensures.ok;
  status_is = c.exit_status_of.ensures;
}

pub returns-in_err-put_reply-clause-err : goal.returns-in_err-put_reply-clause-err
returns-in_err-put_reply-clause-err g c lines kept h follows clean =
    let p = err_from_is_err_and c.from_residual-in_err-put_reply.result c.from_residual-in_err-put_reply.ensures.1 in
    rw (p.1, p.2) (c.in_ok-reply.reply, c.in_ok-reply.ensures.ok lines kept h follows clean, c.in_err-put_reply.ensures.err, λ memory. ap g.W.Sink.contents (c.in_err-put_reply.ensures.short (ap Err memory)))

pub returns-in_err-put_reply-clause-silent : goal.returns-in_err-put_reply-clause-silent
returns-in_err-put_reply-clause-silent g c =
    let p = err_from_is_err_and c.from_residual-in_err-put_reply.result c.from_residual-in_err-put_reply.ensures.1 in
    rw (p.1, p.2) (λ memory. ap (sunk g.W.Sink) (c.in_err-put_reply.ensures.short (ap Err memory)))

pub returns-in_err-reply-clause-err : goal.returns-in_err-reply-clause-err
returns-in_err-reply-clause-err g c lines kept h follows clean =
    let p = err_from_is_err_and c.from_residual.result c.from_residual.ensures.1 in
    rw (p.1, p.2) (c.in_err-reply.ensures.err lines kept h follows clean, refl)
