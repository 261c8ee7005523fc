use Rattle.std.proofs.Common.{refl}
use Rattle.registry_http.proofs.MessageLemmas.{may_give_some}
use Rattle.registry_http.proofs.message.read_rest.Goals as goal

pub returns-in-Query-clause-ok : goal.returns-in-Query-clause-ok
returns-in-Query-clause-ok g c =
    let all = may_give_some (g.R.Source.remaining c.args.source.now) in
    (all.0, all.1, rw c.in-Query.is refl)
