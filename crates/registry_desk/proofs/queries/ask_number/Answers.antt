use Rattle.std.proofs.Common.{◌≡◌, refl}
use Rattle.std.proofs.lemmas.Result.{err_from_is_err_and}
use Rattle.registry_rules.specs.Number.{number}
use Rattle.registry_rules.specs.Query.{is_reserved}
use Rattle.registry_rules.specs.History.{History}
use Rattle.registry_desk.proofs.QueryLemmas.{answers, failed, failed_same, lacks_memory}
use Rattle.registry_desk.proofs.queries.ask_number.Goals as goal

pub returns-in_err-reserved : goal.returns-in_err-reserved
returns-in_err-reserved g c =
    let p = err_from_is_err_and c.from_residual.result c.from_residual.ensures.1 in
    rw (p.1, p.2) (failed_same (λ (h : History). is_reserved h (number c.args.vid c.args.pid)) c.in_err-reserved.ensures.only_poisoned c.in_err-reserved.ensures.when_poisoned c.in_err-reserved.ensures.answered)

pub returns-in_err-entry : goal.returns-in_err-entry
returns-in_err-entry g c =
    let p = err_from_is_err_and c.from_residual-in_err-entry.result c.from_residual-in_err-entry.ensures.1 in
    rw (p.1, p.2) (failed _ c.in_err-entry.ensures.query)

pub returns-in_err-number_response : goal.returns-in_err-number_response
returns-in_err-number_response g c =
    let p = err_from_is_err_and c.from_residual-in_err-number_response.result c.from_residual-in_err-number_response.ensures.1 in
    rw (p.1, p.2) (lacks_memory c.in_ok-entry.ensures.query)

pub returns : goal.returns
returns g c = answers c.in_ok-entry.ensures.query (λ h stands is.
    let reserved : c.in_ok-reserved.reserved ≡ is_reserved h (number c.args.vid c.args.pid) = cc (c.in_ok-reserved.ensures.answered h stands) in
    rw (c.in_ok-number_response.ensures, c.as_ref.ensures.value, is, reserved) refl)
