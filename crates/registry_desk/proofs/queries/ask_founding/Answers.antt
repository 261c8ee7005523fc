use Rattle.std.proofs.lemmas.Result.{err_from_is_err_and}
use Rattle.registry_desk.proofs.QueryLemmas.{answers, failed, lacks_memory}
use Rattle.registry_desk.proofs.queries.ask_founding.Goals as goal

pub returns-in_err-vendors : goal.returns-in_err-vendors
returns-in_err-vendors g c =
    let p = err_from_is_err_and c.from_residual.result c.from_residual.ensures.1 in
    rw (p.1, p.2) (failed _ c.in_err-vendors.ensures.query)

pub returns-in_err-founding_response : goal.returns-in_err-founding_response
returns-in_err-founding_response g c =
    let p = err_from_is_err_and c.from_residual-in_err-founding_response.result c.from_residual-in_err-founding_response.ensures.1 in
    rw (p.1, p.2) (lacks_memory c.in_ok-vendors.ensures.query)

pub returns : goal.returns
returns g c = answers c.in_ok-vendors.ensures.query (λ h stands is. record {
  founding = c.founding-founding.result.now;
  current = c.founding-founding.ensures h (c.in_ok-vendors.ensures.query.left.stays h stands);
  sorted = c.as_slice.ensures.valid;
  vendors = c.in_ok-vendors.vendors.items;
  all_vendors = is;
  response_is = rw (← c.as_slice-2.ensures.value) c.in_ok-founding_response.ensures;
})
