use Rattle.std.proofs.Common.{◌≡◌, ◌∙◌, ap, rules}
use Rattle.std.specs.String.{string_bytes}
use Rattle.std.proofs.lemmas.Result.{err_from_is_err_and}
use Rattle.registry_http.specs.Responses.{page_response}
use Rattle.registry_views.proofs.ViewLemmas.{both}
use Rattle.registry_desk.proofs.QueryLemmas.{answers, failed}
use Rattle.registry_desk.proofs.queries.ask_history.Goals as goal

pub returns : goal.returns
returns g c =
    let made : c.page_response.result ≡ page_response (string_bytes c.in_ok-text.text) c.in_ok-digest.digest = search rules in
    answers (both c.in_ok-text.ensures c.in_ok-digest.ensures.query) (λ h stands is. (string_bytes c.in_ok-text.text, is.0, λ valid. made ∙ ap (page_response (string_bytes c.in_ok-text.text)) (is.1 valid)))

pub returns-in_err-text : goal.returns-in_err-text
returns-in_err-text g c =
    let p = err_from_is_err_and c.from_residual.result c.from_residual.ensures.1 in
    rw (p.1, p.2) (failed _ c.in_err-text.ensures)

pub returns-in_err-digest : goal.returns-in_err-digest
returns-in_err-digest g c =
    let p = err_from_is_err_and c.from_residual-in_err-digest.result c.from_residual-in_err-digest.ensures.1 in
    rw (p.1, p.2) (failed _ (both c.in_ok-text.ensures c.in_err-digest.ensures.query))
