use Rattle.http_exchange.proofs.BodyLemmas.{one_answer}
use Rattle.http_exchange.proofs.laws.says_one_thing.Goals as goal

pub returns : goal.returns
returns c = one_answer
