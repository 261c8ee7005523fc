-- the leaves so far
use Rattle.std.proofs.Common.{◌≡◌, take}
use Rattle.usbids_bench.specs.Counts.{capped_count, leaves_below}
use Rattle.usbids_bench.proofs.leaves_of.Given as goal

abbrev pub invariant-loop-mid : goal.invariant-loop-mid
invariant-loop-mid l = l.leaves ≡ capped_count (leaves_below (take l.mid-index l.mids))
