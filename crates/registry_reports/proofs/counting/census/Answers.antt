use Rattle.std.proofs.Common.{arith}
use Rattle.std.specs.String.{string_bytes}
use Rattle.registry_reports.proofs.CensusLineLemmas.{census_next}
use Rattle.registry_reports.proofs.counting.census.Goals as goal

pub loop-pair-preserved : goal.loop-pair-preserved
loop-pair-preserved c = λ up. census_next c.args.numbers.now c.args.vendors.now c.loop-pair.pair-index c.pair-item.result (string_bytes c.loop-pair.text) (string_bytes c.push_census.new.text) (omega arith) c.pair-item.is (c.loop-pair.invariant up) (c.in_ok-push_census.ensures up)
