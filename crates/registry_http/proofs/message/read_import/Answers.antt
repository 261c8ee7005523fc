use Rattle.std.proofs.Common.{ap}
use Rattle.std.specs.Prelude.{Err}
use Rattle.registry_http.proofs.FaultLemmas.{source_broken}
use Rattle.registry_http.proofs.message.read_import.Goals as goal

pub returns-in_err-whole-clause-broken : goal.returns-in_err-whole-clause-broken
returns-in_err-whole-clause-broken g c = λ broken. c.in_err-whole.ensures.broken (ap Err (source_broken c.from_residual.result c.in_err-whole.field-0.0 c.from_residual.ensures.1 broken))
