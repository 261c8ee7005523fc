use Rattle.std.proofs.Common.{arith}
use Rattle.etcd_messages.proofs.TreeLemmas.{refused_by_many}
use Rattle.etcd_messages.proofs.append.refused_by.Goals as goal

pub returns-in_default : goal.returns-in_default
returns-in_default c = refused_by_many c.args.key.now c.args.pairs.now (omega arith)
