use Rattle.registry_rules.proofs.ReplayLemmas.{replayed, replied}
use Rattle.registry_rules.proofs.laws.is_made_by_its_requests.Goals as goal

pub returns : goal.returns
returns c = λ h legal. (replayed h.founding h.deeds legal, replied h.founding h.deeds legal)
