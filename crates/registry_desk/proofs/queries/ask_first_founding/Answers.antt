use Rattle.std.proofs.Common.{◌∙◌, ap}
use Rattle.std.proofs.lemmas.Result.{IfOk-weaker, err_from_is_err_and}
use Rattle.registry_desk.specs.Acting.{first_founding_response}
use Rattle.registry_desk.proofs.QueryLemmas.{failed, told}
use Rattle.registry_desk.proofs.queries.ask_first_founding.Goals as goal

pub returns-in_err-founding : goal.returns-in_err-founding
returns-in_err-founding g c =
    let p = err_from_is_err_and c.from_residual.result c.from_residual.ensures.1 in
    rw (p.1, p.2) (failed _ c.in_err-founding.ensures.query)

pub returns : goal.returns
returns g c = told _ c.in_ok-founding.ensures.query c.first_founding_response.ensures.err (λ h stands is. IfOk-weaker c.first_founding_response.result _ _ (λ response same. same ∙ ap first_founding_response is) c.first_founding_response.ensures.ok)
