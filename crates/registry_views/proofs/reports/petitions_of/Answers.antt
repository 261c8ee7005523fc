use Rattle.std.proofs.Common.{◌∙◌, ap, sym, ℕ}
use Rattle.std.proofs.lemmas.Result.{err_from_is_err_and}
use Rattle.registry_reports.specs.Petitions.{petition_lines}
use Rattle.registry_views.proofs.ReportLemmas.{lines_of_open}
use Rattle.registry_views.proofs.ViewLemmas.{fails, lacks_memory, made}
use Rattle.registry_views.proofs.reports.petitions_of.Goals as goal

pub returns-in_err-petitions : goal.returns-in_err-petitions
returns-in_err-petitions g c =
    let p = err_from_is_err_and c.from_residual.result c.from_residual.ensures.1 in
    rw (p.1, p.2) (fails c.in_err-petitions.ensures.query)

pub returns-in_err-open_petitions : goal.returns-in_err-open_petitions
returns-in_err-open_petitions g c =
    let p = err_from_is_err_and c.from_residual-in_err-open_petitions.result c.from_residual-in_err-open_petitions.ensures.1 in
    rw (p.1, p.2) (lacks_memory c.in_ok-petitions.ensures.query)

pub returns : goal.returns
returns g c = made c.in_ok-petitions.ensures.query (λ h stands found. record {
  petitions = found.all;
  all_petitions = found.listed;
  lines = rw (← c.as_slice.ensures.value) c.in_ok-open_petitions.ensures
      ∙ ap (λ (vid : ℕ). petition_lines vid c.in_ok-petitions.petitions.items) (c.founding.ensures h stands).vendor
      ∙ ap (petition_lines h.founding.vendor) found.undecided
      ∙ lines_of_open h.founding.vendor found.all;
})
