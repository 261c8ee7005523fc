use Rattle.registry_laws.proofs.SoundLemmas.{spelled}
use Rattle.registry_laws.proofs.reads_as_itself.Goals as goal

pub returns : goal.returns
returns c = spelled
