use Rattle.registry_http.proofs.MessageLemmas.{message_says_one_thing}
use Rattle.registry_http.proofs.message.says_one_thing.Goals as goal

pub returns : goal.returns
returns c = λ founding bytes a b x y. message_says_one_thing founding bytes a b x y
