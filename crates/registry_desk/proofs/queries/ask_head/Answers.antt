use Rattle.std.proofs.Common.{◌≡◌, refl, rules}
use Rattle.std.proofs.lemmas.Result.{err_from_is_err_and}
use Rattle.registry_desk.proofs.QueryLemmas.{failed_alone, told_same}
use Rattle.registry_desk.proofs.queries.ask_head.Goals as goal

pub returns-in_err-head : goal.returns-in_err-head
returns-in_err-head g c =
    let p = err_from_is_err_and c.from_residual.result c.from_residual.ensures.1 in
    rw (p.1, p.2) (failed_alone c.in_err-head.ensures.only_poisoned c.in_err-head.ensures.when_poisoned c.in_err-head.ensures.answered)

pub returns-in_err-head_response : goal.returns-in_err-head_response
returns-in_err-head_response g c =
    let p = err_from_is_err_and c.from_residual-in_err-head_response.result c.from_residual-in_err-head_response.ensures.1 in
    rw (p.1, p.2) (told_same _ (λ spent. let failed = c.in_ok-head.ensures.when_poisoned spent in cc failed) refl (λ h stands. tt))

pub returns : goal.returns
returns g c = told_same _ (λ spent. let failed = c.in_ok-head.ensures.when_poisoned spent in cc failed) tt
    (λ h stands. (c.in_ok-head.head.now, c.in_ok-head.ensures.answered h stands, rw c.as_ref.ensures.value at c.in_ok-head_response.ensures))
