use Rattle.registry_desk.proofs.LawLemmas.{one_response}
use Rattle.registry_desk.proofs.laws.has_one_response.Goals as goal

pub returns : goal.returns
returns c = one_response
