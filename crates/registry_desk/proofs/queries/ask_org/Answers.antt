use Rattle.std.proofs.Common.{◌∙◌, ap}
use Rattle.std.proofs.lemmas.Result.{err_from_is_err_and}
use Rattle.registry_http.specs.Resources.{org_response}
use Rattle.registry_desk.proofs.QueryLemmas.{answers, failed, lacks_memory}
use Rattle.registry_desk.proofs.queries.ask_org.Goals as goal

pub returns-in_err-org : goal.returns-in_err-org
returns-in_err-org g c =
    let p = err_from_is_err_and c.from_residual.result c.from_residual.ensures.1 in
    rw (p.1, p.2) (failed _ c.in_err-org.ensures.query)

pub returns-in_err-org_response : goal.returns-in_err-org_response
returns-in_err-org_response g c =
    let p = err_from_is_err_and c.from_residual-in_err-org_response.result c.from_residual-in_err-org_response.ensures.1 in
    rw (p.1, p.2) (lacks_memory c.in_ok-org.ensures.query)

pub returns : goal.returns
returns g c = answers c.in_ok-org.ensures.query (λ h stands is. c.in_ok-org_response.ensures ∙ ap org_response (c.as_ref.ensures.value ∙ is))
