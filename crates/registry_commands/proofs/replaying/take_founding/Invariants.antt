use Rattle.std.proofs.Common.{◌≡◌, ◌-◌}
use Rattle.registry_commands.specs.RecordLines.{ahead}
use Rattle.registry_commands.proofs.BeginLemmas.{HasPassed}
use Rattle.registry_commands.proofs.replaying.take_founding.Given as goal

abbrev pub invariant-loop-entry : goal.invariant-loop-entry
invariant-loop-entry g l = record {
  so_far : HasPassed (ahead (g.R.Source.remaining l.initial.source) l.initial.unread) (ahead (g.R.Source.remaining l.source) l.unread) l.initial.unread.lines l.unread.lines;
  kept : g.R.Source.failures l.source ≡ g.R.Source.failures l.initial.source;
}

abbrev pub decreases-loop-entry : goal.decreases-loop-entry
decreases-loop-entry g l = 18446744073709551615 - l.unread.lines
