use Rattle.registry_laws.proofs.DigestLemmas.{digests}
use Rattle.registry_laws.proofs.is_digest_of_record.Goals as goal

pub returns : goal.returns
returns c = digests
