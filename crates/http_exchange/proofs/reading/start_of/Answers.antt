use Rattle.std.proofs.Common.{arith}
use Rattle.http_exchange.proofs.HeadLemmas.{never_past}
use Rattle.http_exchange.proofs.reading.start_of.Goals as goal

pub returns-then-head-gt-MOST_HEAD-clause-none : goal.returns-then-head-gt-MOST_HEAD-clause-none
returns-then-head-gt-MOST_HEAD-clause-none c = never_past c.args.buffer.now c.args.spans.now c.args.head c.requires.parsed (omega arith)
