use Rattle.std.proofs.Common.{◌-◌, None}
use Rattle.sqlite.specs.State.{HasCleanDisk}
use Rattle.registry_rules.specs.History.{History}
use Rattle.registry_store.specs.Promise.{Endures, NotesForeign, state_of}
use Rattle.shared_log.specs.Calls.{KeepsLines, LogLines}
use Rattle.shared_registry.specs.Asks.{AppendsRequest, IsLogAsked}
use Rattle.shared_registry.specs.Follows.{Follows, HasGoneOn}
use Rattle.shared_registry.proofs.acting.act.Given as goal

abbrev pub invariant-loop-reply : goal.invariant-loop-reply
invariant-loop-reply g l = record {
  so_far : (lines : g.row.L.Denot → LogLines) → KeepsLines g.L.Log lines → (h : History) → Follows g.L.Log lines l.fn.registry l.fn.cursor h → HasCleanDisk (state_of l.registry) → HasGoneOn g.L.Log lines l.fn.cursor l.registry l.cursor h;
  asks : (lines : g.row.L.Denot → LogLines) → KeepsLines g.L.Log lines → (h : History) → Follows g.L.Log lines l.fn.registry l.fn.cursor h → HasCleanDisk (state_of l.registry) → IsLogAsked g.L.Log (AppendsRequest (lines l.cursor.log) h l.request) l.fn.cursor.log l.cursor.log;
  notes : NotesForeign l.fn.registry l.registry None;
  endures : Endures (state_of l.fn.registry) (state_of l.registry);
}

abbrev pub decreases-loop-reply : goal.decreases-loop-reply
decreases-loop-reply g l = 4294967295 - l.cursor.next
