use Rattle.std.proofs.lemmas.Result.{IfOk-weaker, err_from_is_err_and}
use Rattle.registry_desk.proofs.QueryLemmas.{failed, told}
use Rattle.registry_desk.proofs.queries.ask_list.Goals as goal

pub returns-in_err-document : goal.returns-in_err-document
returns-in_err-document g c =
    let p = err_from_is_err_and c.from_residual.result c.from_residual.ensures.1 in
    rw (p.1, p.2) (failed _ c.in_err-document.ensures)

pub returns : goal.returns
returns g c = told _ c.in_ok-document.ensures c.list_response.ensures.err (λ h stands is. IfOk-weaker c.list_response.result _ _ (λ response same. (c.in_ok-document.document, is, same)) c.list_response.ensures.ok)
