use Rattle.std.proofs.Common.{◌≡◌, ℕ, List, take}
use Rattle.std.specs.Ordering.{nat_cmp}
use Rattle.std.specs.Cmp.Lexicographic.{slice_cmp}
use Rattle.std.specs.BTreeMap.{get}
use Rattle.registry_reports.specs.Tallies.{tallied}
use Rattle.registry_reports.proofs.tallies.tallied.Given as goal

abbrev pub invariant-loop-pair : goal.invariant-loop-pair
invariant-loop-pair l = (slug : List ℕ) → get (slice_cmp nat_cmp) l.tallies slug ≡ tallied (take l.pair-index l.numbers) slug
