use Rattle.registry_laws.proofs.RoundTripLemmas.{completes}
use Rattle.registry_laws.proofs.completes_list.Goals as goal

pub returns : goal.returns
returns c = completes
