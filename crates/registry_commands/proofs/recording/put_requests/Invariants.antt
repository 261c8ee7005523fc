use Rattle.std.proofs.Common.{◌≡◌, ◌-◌, true, None}
use Rattle.registry_store.specs.Promise.{NotesForeign, is_poisoned}
use Rattle.registry_commands.proofs.RecordedLemmas.{AreWritten}
use Rattle.registry_commands.proofs.recording.put_requests.Given as goal

abbrev pub invariant-loop-count : goal.invariant-loop-count
invariant-loop-count g l = record {
  so_far : AreWritten l.initial.registry l.registry (g.W.Sink.contents l.initial.output) (g.W.Sink.contents l.output) l.after l.passed;
  kept : g.W.Sink.failures l.output ≡ g.W.Sink.failures l.initial.output;
  poisoned : is_poisoned l.initial.registry ≡ true → (l.registry ≡ l.initial.registry) × (l.output ≡ l.initial.output);
  notes : NotesForeign l.initial.registry l.registry None;
}

abbrev pub decreases-loop-count : goal.decreases-loop-count
decreases-loop-count g l = 18446744073709551615 - l.passed
