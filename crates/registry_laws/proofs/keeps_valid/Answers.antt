use Rattle.registry_laws.proofs.ValidLemmas.{kept_valid}
use Rattle.registry_laws.proofs.keeps_valid.Goals as goal

pub returns : goal.returns
returns c = kept_valid
