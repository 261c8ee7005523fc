use Rattle.registry_laws.proofs.RoundTripLemmas.{same_list}
use Rattle.registry_laws.proofs.gives_same_list.Goals as goal

pub returns : goal.returns
returns c = same_list
