-- the mids and the leaves so far
use Rattle.std.proofs.Common.{◌≡◌, take}
use Rattle.usbids_bench.specs.Counts.{capped_count, mids_in, leaves_under}
use Rattle.usbids_bench.proofs.counts_of.Given as goal

abbrev pub invariant-loop-top : goal.invariant-loop-top
invariant-loop-top l = record {
  mids : l.mids ≡ capped_count (mids_in (take l.top-index l.tops));
  leaves : l.leaves ≡ capped_count (leaves_under (take l.top-index l.tops));
}
