use Rattle.std.proofs.lemmas.Result.{err_from_is_err_and}
use Rattle.registry_views.proofs.ViewLemmas.{fails, lacks_memory, made}
use Rattle.registry_views.proofs.reports.holders_of.Goals as goal

pub returns-in_err-numbers : goal.returns-in_err-numbers
returns-in_err-numbers g c =
    let p = err_from_is_err_and c.from_residual.result c.from_residual.ensures.1 in
    rw (p.1, p.2) (fails c.in_err-numbers.ensures.query)

pub returns-in_err-holders : goal.returns-in_err-holders
returns-in_err-holders g c =
    let p = err_from_is_err_and c.from_residual-in_err-holders.result c.from_residual-in_err-holders.ensures.1 in
    rw (p.1, p.2) (lacks_memory c.in_ok-numbers.ensures.query)

pub returns : goal.returns
returns g c = made c.in_ok-numbers.ensures.query (λ h stands numbers.
    record { numbers = c.in_ok-numbers.numbers.items; all_numbers = numbers; holders = rw (← c.as_slice.ensures.value) c.in_ok-holders.ensures })
