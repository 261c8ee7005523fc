use Rattle.std.proofs.Common.{drop}
use Rattle.registry_http.proofs.FaultLemmas.{head_refused}
use Rattle.registry_http.proofs.message.read_after_head.Goals as goal

pub returns-in_err-call-clause-ok : goal.returns-in_err-call-clause-ok
returns-in_err-call-clause-ok g c =
    let gives = rw c.deref.ensures.value at c.in_err-call.ensures in
    head_refused c.from_residual.result c.in_err-call.field-0.0 c.args.founding _ (g.R.Source.remaining c.args.source.now) (drop c.args.head.len c.args.buffer.now.items) c.from_residual.ensures.1 gives
