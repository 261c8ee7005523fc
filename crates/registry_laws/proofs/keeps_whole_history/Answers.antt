use Rattle.registry_laws.proofs.WholeLemmas.{kept_whole}
use Rattle.registry_laws.proofs.keeps_whole_history.Goals as goal

pub returns : goal.returns
returns c = kept_whole
