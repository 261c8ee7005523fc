use Rattle.std.proofs.lemmas.Result.{err_from_is_err_and}
use Rattle.registry_views.proofs.ViewLemmas.{both, fails, lacks_memory, made, sound}
use Rattle.registry_views.proofs.reports.numbers_of.Goals as goal

pub returns-in_err-vendors : goal.returns-in_err-vendors
returns-in_err-vendors g c =
    let p = err_from_is_err_and c.from_residual.result c.from_residual.ensures.1 in
    rw (p.1, p.2) (fails c.in_err-vendors.ensures.query)

pub returns-in_err-numbers : goal.returns-in_err-numbers
returns-in_err-numbers g c =
    let p = err_from_is_err_and c.from_residual-in_err-numbers.result c.from_residual-in_err-numbers.ensures.1 in
    rw (p.1, p.2) (fails (both c.in_ok-vendors.ensures.query c.in_err-numbers.ensures.query))

pub returns-in_err-pairs : goal.returns-in_err-pairs
returns-in_err-pairs g c =
    let p = err_from_is_err_and c.from_residual-in_err-pairs.result c.from_residual-in_err-pairs.ensures.1 in
    rw (p.1, p.2, c.in_err-pairs.ensures.kind (sound c.in_ok-numbers.ensures.query)) (lacks_memory (both c.in_ok-vendors.ensures.query c.in_ok-numbers.ensures.query))

pub returns-in_err-taken_numbers : goal.returns-in_err-taken_numbers
returns-in_err-taken_numbers g c =
    let p = err_from_is_err_and c.from_residual-in_err-taken_numbers.result c.from_residual-in_err-taken_numbers.ensures.1 in
    rw (p.1, p.2) (lacks_memory (both c.in_ok-vendors.ensures.query c.in_ok-numbers.ensures.query))

pub returns : goal.returns
returns g c =
    let queried = both c.in_ok-vendors.ensures.query c.in_ok-numbers.ensures.query in
    made queried (λ h stands is. record {
      vendors = c.in_ok-vendors.vendors.items;
      all_vendors = is.0;
      pairs = c.in_ok-pairs.pairs.items;
      reserved = rw (← c.as_slice.ensures.value) (c.in_ok-pairs.ensures.answered h (queried.left.stays h stands));
      numbers = c.in_ok-numbers.numbers.items;
      all_numbers = is.1;
      lines = rw (← c.as_slice-2.ensures.value, ← c.as_slice-3.ensures.value) (c.in_ok-taken_numbers.ensures (rw c.as_slice-3.ensures.value is.1.ascend));
    })
