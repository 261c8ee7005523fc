use Rattle.std.proofs.Common.{◌≡◌, None, true, take}
use Rattle.sqlite.specs.State.{HasCleanDisk}
use Rattle.registry_rules.specs.History.{History}
use Rattle.registry_store.specs.Promise.{Endures, NotesForeign, is_poisoned, state_of}
use Rattle.registry_commands.specs.Ends.{output_of}
use Rattle.shared_log.specs.Calls.{KeepsLines, LogLines}
use Rattle.shared_registry.specs.Follows.{Follows}
use Rattle.shared_commands.specs.Answered.{HasAnsweredAll}
use Rattle.shared_commands.proofs.answering.answer_all.Given as goal

abbrev pub invariant-loop-request : goal.invariant-loop-request
invariant-loop-request g l = record {
  so_far : (lines : g.row.L.Denot → LogLines) → KeepsLines g.L.Log lines → (h : History) → Follows g.L.Log lines l.initial.registry l.initial.cursor h → HasCleanDisk (state_of l.registry)
      → HasAnsweredAll g.L.Log lines l.registry l.cursor l.initial.cursor h (take l.request-index l.requests) (output_of g.W.Sink l.initial.output l.output);
  when_poisoned : is_poisoned l.initial.registry ≡ true → (l.registry ≡ l.initial.registry) × (l.cursor ≡ l.initial.cursor) × (g.W.Sink.contents l.output ≡ g.W.Sink.contents l.initial.output);
  kept : g.W.Sink.failures l.output ≡ g.W.Sink.failures l.initial.output;
  notes : NotesForeign l.initial.registry l.registry None;
  endures : Endures (state_of l.initial.registry) (state_of l.registry);
}
