use Rattle.std.proofs.Common.{refl}
use Rattle.std.proofs.lemmas.Result.{err_from_is_err_and}
use Rattle.registry_views.proofs.ViewLemmas.{both}
use Rattle.registry_desk.proofs.QueryLemmas.{answers, failed, lacks_memory}
use Rattle.registry_desk.proofs.queries.ask_petition.Goals as goal

pub returns-in_err-petition : goal.returns-in_err-petition
returns-in_err-petition g c =
    let p = err_from_is_err_and c.from_residual.result c.from_residual.ensures.1 in
    rw (p.1, p.2) (failed _ c.in_err-petition.ensures.query)

pub returns-in_err-reason : goal.returns-in_err-reason
returns-in_err-reason g c =
    let p = err_from_is_err_and c.from_residual-in_err-reason.result c.from_residual-in_err-reason.ensures.1 in
    rw (p.1, p.2) (failed _ (both c.in_ok-petition.ensures.query c.in_err-reason.ensures.query))

pub returns-in_err-times : goal.returns-in_err-times
returns-in_err-times g c =
    let p = err_from_is_err_and c.from_residual-in_err-times.result c.from_residual-in_err-times.ensures.1 in
    rw (p.1, p.2) (failed _ (both (both c.in_ok-petition.ensures.query c.in_ok-reason.ensures.query) c.in_err-times.ensures.query))

pub returns-in_err-petition_response : goal.returns-in_err-petition_response
returns-in_err-petition_response g c =
    let p = err_from_is_err_and c.from_residual-in_err-petition_response.result c.from_residual-in_err-petition_response.ensures.1 in
    rw (p.1, p.2) (lacks_memory (both (both c.in_ok-petition.ensures.query c.in_ok-reason.ensures.query) c.in_ok-times.ensures.query))

pub returns : goal.returns
returns g c = answers (both (both c.in_ok-petition.ensures.query c.in_ok-reason.ensures.query) c.in_ok-times.ensures.query) (λ h stands is.
    let founding = (c.founding.ensures h stands).vendor in
    (c.in_ok-times.times, is.1, rw (c.in_ok-petition_response.ensures, c.as_ref.ensures.value, c.as_ref-2.ensures.value, is.0.0, is.0.1, founding) refl))
