use Rattle.std.proofs.Common.{◌≡◌, ◌≤◌, ◌-◌, ◌==◌, length, position, take, None, []}
use Rattle.std.specs.Io.KnownBytes.{Consumes}
use Rattle.registry_commands.specs.RecordLines.{ahead, unread_of}
use Rattle.registry_commands.proofs.record_lines.find_line.Given as goal

abbrev pub invariant-loop-end : goal.invariant-loop-end
invariant-loop-end g l = record {
  same : Consumes (ahead (g.R.Source.remaining l.initial.source) l.initial.unread) (ahead (g.R.Source.remaining l.source) l.unread) [];
  same_failures : g.R.Source.failures l.source ≡ g.R.Source.failures l.initial.source;
  same_lines : l.unread.lines ≡ l.initial.unread.lines;
  within : l.searched ≤ length (unread_of l.unread);
  none : position (λ b. b == 10) (take l.searched (unread_of l.unread)) ≡ None;
}

abbrev pub decreases-loop-end : goal.decreases-loop-end
decreases-loop-end g l = 4194305 - length (unread_of l.unread)
