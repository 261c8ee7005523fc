use Rattle.std.proofs.Common.{◌≡◌, take}
use Rattle.shared_log.proofs.deciding.first_of.Given as goal

abbrev pub invariant-loop-line : goal.invariant-loop-line
invariant-loop-line l = l.page ≡ take l.line-index l.lines
