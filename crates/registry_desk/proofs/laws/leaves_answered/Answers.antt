use Rattle.registry_desk.proofs.AnsweredLemmas.{leaves_answered}
use Rattle.registry_desk.proofs.laws.leaves_answered.Goals as goal

pub returns : goal.returns
returns c = leaves_answered
