use Rattle.std.proofs.lemmas.Result.{err_from_is_err_and}
use Rattle.registry_commands.proofs.ReplayLemmas.{noted_fault}
use Rattle.registry_commands.proofs.following.follow.Goals as goal

pub returns-in_err-reply-clause-notes : goal.returns-in_err-reply-clause-notes
returns-in_err-reply-clause-notes g c =
    let p = err_from_is_err_and c.from_residual.result c.from_residual.ensures.1 in
    rw (p.1, p.2) (noted_fault c.args.registry.now c.act.new.self c.in_err-reply.field-0.0 c.in_err-reply.ensures.notes)
