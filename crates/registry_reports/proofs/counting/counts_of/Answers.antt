use Rattle.registry_reports.proofs.CensusLemmas.{free_are_the_rest, reserved_is_count}
use Rattle.registry_reports.proofs.counting.counts_of.Goals as goal

pub returns-clause-free : goal.returns-clause-free
returns-clause-free c = λ up. free_are_the_rest c.args.numbers.now c.args.spans.now c.args.vid c.count-reserved.result c.count_held-held.result c.count_returned-returned.result _ (reserved_is_count c.args.spans.now c.count-reserved.result c.count-reserved.ensures) (c.count_held-held.ensures up) (c.count_returned-returned.ensures up) c.free_of.ensures

pub returns-clause-reserved : goal.returns-clause-reserved
returns-clause-reserved c = reserved_is_count c.args.spans.now c.count-reserved.result c.count-reserved.ensures
