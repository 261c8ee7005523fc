use Rattle.registry_rules.proofs.ReadLemmas.{own_canonical_form}
use Rattle.registry_rules.proofs.laws.has_own_canonical_form.Goals as goal

pub returns : goal.returns
returns c = own_canonical_form
