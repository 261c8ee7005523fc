use Rattle.registry_http.proofs.IncompleteLemmas.{incomplete_says}
use Rattle.registry_http.proofs.message.refuses_an_incomplete_message.Goals as goal

pub returns : goal.returns
returns c = λ founding bytes said lacks says. incomplete_says founding bytes said lacks says
