use Rattle.std.proofs.Common.{arith}
use Rattle.etcd_messages.proofs.TreeLemmas.{last_of_many}
use Rattle.etcd_messages.proofs.head.last_of.Goals as goal

pub returns-in_default : goal.returns-in_default
returns-in_default c = last_of_many c.args.name.now c.args.count c.args.pairs.now (omega arith)
