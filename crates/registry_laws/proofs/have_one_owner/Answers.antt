use Rattle.registry_laws.proofs.MachineLemmas.{one_owner}
use Rattle.registry_laws.proofs.have_one_owner.Goals as goal

pub returns : goal.returns
returns c = one_owner
