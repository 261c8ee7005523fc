use Rattle.registry_laws.proofs.MachineLemmas.{each_request}
use Rattle.registry_laws.proofs.have_each_request.Goals as goal

pub returns : goal.returns
returns c = each_request
