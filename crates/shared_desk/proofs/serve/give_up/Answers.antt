use Rattle.std.proofs.Common.{sym, subst, ◌∙◌}
use Rattle.std.proofs.lemmas.Result.{IfOk-weaker}
use Rattle.registry_http.specs.declared.unavailable.Unavailable.{Unavailable}
use Rattle.registry_http.specs.Responses.{unavailable_response}
use Rattle.registry_desk.specs.Serving.{Sends}
use Rattle.registry_desk.proofs.ServeLemmas.{status_503}
use Rattle.shared_desk.proofs.serve.give_up.Goals as goal

pub returns-clause-sent : goal.returns-clause-sent
returns-clause-sent g c =
    let why = c.unavailable_for in
    let write = c.write_unavailable-status in
    subst (λ (u : Unavailable). Sends g.W.Sink.contents g.W.Sink.failures c.args.sink.now write.new.sink (unavailable_response u) write.result) why.ensures
    (write.ensures.writes, IfOk-weaker write.result _ _ (λ status is. is ∙ sym (status_503 why.result)) write.ensures.status)
