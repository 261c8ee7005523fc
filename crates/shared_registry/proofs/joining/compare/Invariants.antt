use Rattle.std.proofs.Common.{◌-◌, None}
use Rattle.sqlite.specs.State.{HasCleanDisk}
use Rattle.registry_rules.specs.History.{History}
use Rattle.registry_laws.specs.Machines.{HasValidFields}
use Rattle.registry_store.specs.Promise.{NotesForeign, Represents, state_of}
use Rattle.registry_store.specs.Queries.{IsUntouched}
use Rattle.shared_log.specs.Calls.{Grows, KeepsLines, LogLines}
use Rattle.shared_registry.specs.Asks.{AppendsNothing, IsLogAsked}
use Rattle.shared_registry.specs.Records.{HasPassed}
use Rattle.shared_registry.proofs.joining.compare.Given as goal

abbrev pub invariant-loop : goal.invariant-loop
invariant-loop g l = record {
  so_far : (lines : g.row.L.Denot → LogLines) → KeepsLines g.L.Log lines → (h : History) → Represents l.initial.registry h → HasValidFields h → HasPassed lines l.initial.cursor h → HasCleanDisk (state_of l.registry)
      → HasPassed lines l.cursor h × Grows (lines l.initial.cursor.log) (lines l.cursor.log);
  untouched : IsUntouched l.initial.registry l.registry;
  asks : IsLogAsked g.L.Log AppendsNothing l.initial.cursor.log l.cursor.log;
  notes : NotesForeign l.initial.registry l.registry None;
}

abbrev pub decreases-loop : goal.decreases-loop
decreases-loop g l = 4294967295 - l.cursor.next
