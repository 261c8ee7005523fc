use Rattle.registry_laws.proofs.LineLemmas.{accepted_read}
use Rattle.registry_laws.proofs.reads_accepted.Goals as goal

pub returns : goal.returns
returns c = accepted_read
