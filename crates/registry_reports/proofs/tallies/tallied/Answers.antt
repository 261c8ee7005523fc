use Rattle.std.proofs.Common.{arith}
use Rattle.registry_reports.proofs.TallyLemmas.{tallied_start, tallied_next, all_tallied, tally_below}
use Rattle.registry_reports.proofs.tallies.tallied.Goals as goal

pub loop-pair-init : goal.loop-pair-init
loop-pair-init c = tallied_start c.new-tallies.result c.args.numbers.now c.new-tallies.ensures.empty

pub count_in-requires-clause-held : goal.count_in-requires-clause-held
count_in-requires-clause-held c = let s = (tally_below c.loop-pair.tallies c.args.numbers.now c.loop-pair.pair-index c.pair-item.result.1.org (omega arith) c.loop-pair.invariant).0 in omega arith

pub count_in-requires-clause-returned : goal.count_in-requires-clause-returned
count_in-requires-clause-returned c = let s = (tally_below c.loop-pair.tallies c.args.numbers.now c.loop-pair.pair-index c.pair-item.result.1.org (omega arith) c.loop-pair.invariant).1 in omega arith

pub loop-pair-preserved : goal.loop-pair-preserved
loop-pair-preserved c = tallied_next c.loop-pair.tallies c.count_in.new.tallies c.args.numbers.now c.loop-pair.pair-index c.pair-item.result (omega arith) c.pair-item.is c.loop-pair.invariant c.in_ok-count_in.ensures

pub returns : goal.returns
returns c = all_tallied c.loop-pair.tallies c.args.numbers.now c.loop-pair.pair-index (omega arith) c.loop-pair.invariant
