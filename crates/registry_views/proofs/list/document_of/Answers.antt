use Rattle.std.proofs.Common.{sym, subst}
use Rattle.std.proofs.lemmas.Result.{err_from_is_err_and}
use Rattle.registry_reports.specs.History.{IsListing}
use Rattle.registry_reports.proofs.HistoryLemmas.{lists}
use Rattle.registry_views.proofs.ViewLemmas.{both, fails, lacks_memory, made}
use Rattle.registry_views.proofs.list.document_of.Goals as goal

pub returns-in_err-vendors : goal.returns-in_err-vendors
returns-in_err-vendors g c =
    let p = err_from_is_err_and c.from_residual.result c.from_residual.ensures.1 in
    rw (p.1, p.2) (fails c.in_err-vendors.ensures.query)

pub returns-in_err-numbers : goal.returns-in_err-numbers
returns-in_err-numbers g c =
    let p = err_from_is_err_and c.from_residual-in_err-numbers.result c.from_residual-in_err-numbers.ensures.1 in
    rw (p.1, p.2) (fails (both c.in_ok-vendors.ensures.query c.in_err-numbers.ensures.query))

pub returns-in_err-list_document : goal.returns-in_err-list_document
returns-in_err-list_document g c =
    let p = err_from_is_err_and c.from_residual-in_err-list_document.result c.from_residual-in_err-list_document.ensures.1 in
    rw (p.1, p.2) (lacks_memory (both c.in_ok-vendors.ensures.query c.in_ok-numbers.ensures.query))

pub returns : goal.returns
returns g c = made (both c.in_ok-vendors.ensures.query c.in_ok-numbers.ensures.query) (λ h stands is.
    let numbers = is.1 in
    let vendors = is.0 in
    subst (IsListing h) (sym c.in_ok-list_document.ensures) (rw (c.as_slice.ensures.value, c.as_slice-2.ensures.value) (lists h c.in_ok-vendors.vendors.items c.in_ok-numbers.numbers.items numbers.ascend vendors.ascend numbers.each vendors.each)))
