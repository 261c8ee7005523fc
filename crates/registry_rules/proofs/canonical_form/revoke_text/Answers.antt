use Rattle.registry_rules.proofs.CanonicalFormLemmas.{joined}
use Rattle.registry_rules.proofs.canonical_form.revoke_text.Goals as goal

pub returns : goal.returns
returns c = simp joined c.format.ensures.ok
