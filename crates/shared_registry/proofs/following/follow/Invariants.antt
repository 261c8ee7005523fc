use Rattle.std.proofs.Common.{◌-◌, None}
use Rattle.sqlite.specs.State.{HasCleanDisk}
use Rattle.registry_rules.specs.History.{History}
use Rattle.registry_store.specs.Promise.{Endures, NotesForeign, state_of}
use Rattle.shared_log.specs.Calls.{KeepsLines, LogLines}
use Rattle.shared_registry.specs.Asks.{AppendsNothing, IsLogAsked}
use Rattle.shared_registry.specs.Follows.{Follows, HasGoneOn}
use Rattle.shared_registry.proofs.following.follow.Given as goal

abbrev pub invariant-loop : goal.invariant-loop
invariant-loop g l = record {
  so_far : (lines : g.row.L.Denot → LogLines) → KeepsLines g.L.Log lines → (h : History) → Follows g.L.Log lines l.initial.registry l.initial.cursor h → HasCleanDisk (state_of l.registry) → HasGoneOn g.L.Log lines l.initial.cursor l.registry l.cursor h;
  asks : IsLogAsked g.L.Log AppendsNothing l.initial.cursor.log l.cursor.log;
  notes : NotesForeign l.initial.registry l.registry None;
  endures : Endures (state_of l.initial.registry) (state_of l.registry);
}

abbrev pub decreases-loop : goal.decreases-loop
decreases-loop g l = 4294967295 - l.cursor.next
