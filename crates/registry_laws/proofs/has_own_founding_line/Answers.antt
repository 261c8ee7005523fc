use Rattle.registry_laws.proofs.OwnLineLemmas.{own_founding_line}
use Rattle.registry_laws.proofs.has_own_founding_line.Goals as goal

pub returns : goal.returns
returns c = own_founding_line
