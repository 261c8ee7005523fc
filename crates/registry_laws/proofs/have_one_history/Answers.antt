use Rattle.registry_laws.proofs.MachineLemmas.{one_history}
use Rattle.registry_laws.proofs.have_one_history.Goals as goal

pub returns : goal.returns
returns c = one_history
