use Rattle.std.proofs.Common.{rules}
use Rattle.std.specs.String.{string_bytes}
use Rattle.std.proofs.lemmas.Result.{err_from_is_err_and}
use Rattle.registry_desk.proofs.QueryLemmas.{answers, failed}
use Rattle.registry_desk.proofs.queries.ask_report.Goals as goal

pub returns-in_err-text : goal.returns-in_err-text
returns-in_err-text g c =
    let p = err_from_is_err_and c.from_residual.result c.from_residual.ensures.1 in
    rw (p.1, p.2) (failed _ c.in_err-text.ensures)

pub returns : goal.returns
returns g c = answers c.in_ok-text.ensures (λ h stands is. (string_bytes c.in_ok-text.text, is, search rules))
