use Rattle.etcd_messages.proofs.StatedLemmas.{append_in_said}
use Rattle.etcd_messages.proofs.laws.reads_what_became_of_an_append.Goals as goal

pub returns : goal.returns
returns c = λ s name n log bytes. append_in_said s name n log bytes
