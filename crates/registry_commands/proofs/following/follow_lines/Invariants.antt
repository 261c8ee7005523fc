use Rattle.std.proofs.Common.{◌≡◌, ◌-◌}
use Rattle.registry_commands.specs.RecordLines.{ahead}
use Rattle.registry_commands.proofs.ReplayLemmas.{AreReplayed}
use Rattle.registry_commands.proofs.following.follow_lines.Given as goal

abbrev pub invariant-loop-accepted : goal.invariant-loop-accepted
invariant-loop-accepted g l = record {
  so_far : AreReplayed (ahead (g.R.Source.remaining l.initial.source) l.initial.unread) (ahead (g.R.Source.remaining l.source) l.unread) l.initial.unread.lines l.unread.lines l.initial.registry l.registry;
  kept : g.R.Source.failures l.source ≡ g.R.Source.failures l.initial.source;
}

abbrev pub decreases-loop-accepted : goal.decreases-loop-accepted
decreases-loop-accepted g l = 18446744073709551615 - l.unread.lines
