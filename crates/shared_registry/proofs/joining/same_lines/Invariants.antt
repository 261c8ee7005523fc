use Rattle.std.proofs.Common.{◌≡◌, ◌≤◌, length, take}
use Rattle.shared_registry.proofs.joining.same_lines.Given as goal

abbrev pub invariant-loop-line : goal.invariant-loop-line
invariant-loop-line l = record {
  counted : l.count ≡ l.line-index;
  there : l.count ≤ length l.theirs;
  same : take l.line-index l.ours ≡ take l.line-index l.theirs;
}
