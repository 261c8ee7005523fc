use Rattle.registry_laws.proofs.SoundLemmas.{read_back}
use Rattle.registry_laws.proofs.is_read_back.Goals as goal

pub returns : goal.returns
returns c = read_back
