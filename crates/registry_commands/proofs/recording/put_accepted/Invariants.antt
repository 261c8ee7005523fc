use Rattle.std.proofs.Common.{◌≡◌, take}
use Rattle.std.specs.Io.KnownBytes.{Appends}
use Rattle.registry_commands.specs.Recorded.{accepted_lines}
use Rattle.registry_commands.proofs.recording.put_accepted.Given as goal

abbrev pub invariant-loop-accepted : goal.invariant-loop-accepted
invariant-loop-accepted g l = record {
  gained : Appends (g.W.Sink.contents l.initial.output) (g.W.Sink.contents l.output) (accepted_lines (take l.accepted-index l.list));
  kept : g.W.Sink.failures l.output ≡ g.W.Sink.failures l.initial.output;
}
