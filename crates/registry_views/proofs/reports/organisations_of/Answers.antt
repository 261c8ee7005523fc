use Rattle.std.proofs.lemmas.Result.{err_from_is_err_and}
use Rattle.registry_views.proofs.ViewLemmas.{fails, lacks_memory, made}
use Rattle.registry_views.proofs.reports.organisations_of.Goals as goal

pub returns-in_err-orgs : goal.returns-in_err-orgs
returns-in_err-orgs g c =
    let p = err_from_is_err_and c.from_residual.result c.from_residual.ensures.1 in
    rw (p.1, p.2) (fails c.in_err-orgs.ensures.query)

pub returns-in_err-organisations : goal.returns-in_err-organisations
returns-in_err-organisations g c =
    let p = err_from_is_err_and c.from_residual-in_err-organisations.result c.from_residual-in_err-organisations.ensures.1 in
    rw (p.1, p.2) (lacks_memory c.in_ok-orgs.ensures.query)

pub returns : goal.returns
returns g c = made c.in_ok-orgs.ensures.query (λ h stands orgs.
    record { orgs = c.in_ok-orgs.orgs.items; all_orgs = orgs; lines = rw (← c.as_slice.ensures.value) c.in_ok-organisations.ensures })
