use Rattle.std.proofs.lemmas.Result.{err_from_is_err_and}
use Rattle.registry_views.proofs.ViewLemmas.{both, fails, made}
use Rattle.registry_views.proofs.lists.lists_of.Goals as goal

pub returns-in_err-vendors : goal.returns-in_err-vendors
returns-in_err-vendors g c =
    let p = err_from_is_err_and c.from_residual.result c.from_residual.ensures.1 in
    rw (p.1, p.2) (fails c.in_err-vendors.ensures.query)

pub returns-in_err-orgs : goal.returns-in_err-orgs
returns-in_err-orgs g c =
    let p = err_from_is_err_and c.from_residual-in_err-orgs.result c.from_residual-in_err-orgs.ensures.1 in
    rw (p.1, p.2) (fails (both c.in_ok-vendors.ensures.query c.in_err-orgs.ensures.query))

pub returns-in_err-petitions : goal.returns-in_err-petitions
returns-in_err-petitions g c =
    let p = err_from_is_err_and c.from_residual-in_err-petitions.result c.from_residual-in_err-petitions.ensures.1 in
    rw (p.1, p.2) (fails (both (both c.in_ok-vendors.ensures.query c.in_ok-orgs.ensures.query) c.in_err-petitions.ensures.query))

pub returns-in_err-numbers : goal.returns-in_err-numbers
returns-in_err-numbers g c =
    let p = err_from_is_err_and c.from_residual-in_err-numbers.result c.from_residual-in_err-numbers.ensures.1 in
    rw (p.1, p.2) (fails (both (both (both c.in_ok-vendors.ensures.query c.in_ok-orgs.ensures.query) c.in_ok-petitions.ensures.query) c.in_err-numbers.ensures.query))

pub returns : goal.returns
returns g c =
    made (both (both (both c.in_ok-vendors.ensures.query c.in_ok-orgs.ensures.query) c.in_ok-petitions.ensures.query) c.in_ok-numbers.ensures.query)
    (λ h stands is. record { vendors = is.0.0.0; orgs = is.0.0.1; petitions = is.0.1; numbers = is.1 })
