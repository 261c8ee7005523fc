use Rattle.std.proofs.Common.{arith}
use Rattle.std.specs.String.{string_bytes}
use Rattle.registry_reports.proofs.NumberLemmas.{vendor_next}
use Rattle.registry_reports.proofs.taken.taken_numbers.Goals as goal

pub loop-pair-preserved : goal.loop-pair-preserved
loop-pair-preserved c = λ up. vendor_next c.args.numbers.now c.args.vendors.now c.loop-pair.pair-index c.pair-item.result (string_bytes c.loop-pair.text) (string_bytes c.push_vendor.new.text) (omega arith) c.pair-item.is (c.loop-pair.invariant up) (c.in_ok-push_vendor.ensures up)
