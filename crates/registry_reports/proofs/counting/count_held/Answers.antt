use Rattle.std.proofs.Common.{arith}
use Rattle.registry_reports.proofs.CensusLemmas.{counts_start, counts_next, held_end, picks, held_test}
use Rattle.registry_reports.proofs.counting.count_held.Goals as goal

pub loop-pair-init : goal.loop-pair-init
loop-pair-init c = counts_start (picks (held_test c.args.spans.now) c.args.vid) c.args.numbers.now

pub loop-pair-preserved : goal.loop-pair-preserved
loop-pair-preserved c = counts_next (picks (held_test c.args.spans.now) c.args.vid) c.args.numbers.now c.loop-pair.pair-index c.loop-pair.count c.one_more-count.result c.pair-item.result c.is_held.result (omega arith) c.pair-item.is c.is_held.ensures.value c.is_held.ensures.number c.one_more-count.ensures c.loop-pair.invariant

pub returns : goal.returns
returns c = λ up. held_end c.args.spans.now c.args.vid c.args.numbers.now c.loop-pair.pair-index c.loop-pair.count up (omega arith) c.loop-pair.invariant
