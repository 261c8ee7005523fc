use Rattle.registry_laws.proofs.LineLemmas.{founding_read}
use Rattle.registry_laws.proofs.reads_founding.Goals as goal

pub returns : goal.returns
returns c = founding_read
