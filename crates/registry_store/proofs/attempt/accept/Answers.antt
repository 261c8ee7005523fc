use Rattle.registry_store.proofs.TransactionLemmas.{answer_is}
use Rattle.registry_store.proofs.attempt.accept.Goals as goal

pub returns-in-Ok-2-clause-answer : goal.returns-in-Ok-2-clause-answer
returns-in-Ok-2-clause-answer g c = answer_is c.in-Ok.reply c.args.deed.now c.in-Ok.ensures
