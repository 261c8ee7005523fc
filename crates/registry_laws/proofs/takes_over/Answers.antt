use Rattle.registry_laws.proofs.TakingLemmas.{takes}
use Rattle.registry_laws.proofs.takes_over.Goals as goal

pub returns : goal.returns
returns c = takes
