use Rattle.std.proofs.Common.{arith}
use Rattle.registry_reports.proofs.CensusLemmas.{counts_start, counts_next, returned_end, picks, returned_test}
use Rattle.registry_reports.proofs.counting.count_returned.Goals as goal

pub loop-pair-init : goal.loop-pair-init
loop-pair-init c = counts_start (picks (returned_test c.args.spans.now) c.args.vid) c.args.numbers.now

pub loop-pair-preserved : goal.loop-pair-preserved
loop-pair-preserved c = counts_next (picks (returned_test c.args.spans.now) c.args.vid) c.args.numbers.now c.loop-pair.pair-index c.loop-pair.count c.one_more-count.result c.pair-item.result c.is_returned.result (omega arith) c.pair-item.is c.is_returned.ensures.value c.is_returned.ensures.number c.one_more-count.ensures c.loop-pair.invariant

pub returns : goal.returns
returns c = λ up. returned_end c.args.spans.now c.args.vid c.args.numbers.now c.loop-pair.pair-index c.loop-pair.count up (omega arith) c.loop-pair.invariant
