use Rattle.std.proofs.Common.{◌≡◌, List, length}
use Rattle.std.specs.Prelude.{All, true, None}
use Rattle.sqlite.specs.State.{HasCleanDisk}
use Rattle.registry_rules.specs.History.{History}
use Rattle.registry_store.specs.Promise.{Endures, NotesForeign, is_poisoned, state_of}
use Rattle.registry_desk.specs.Server.{Visit, HaveVisited}
use Rattle.shared_log.specs.Calls.{KeepsLines, LogLines}
use Rattle.shared_registry.specs.Asks.{IsLogAsked}
use Rattle.shared_registry.specs.Follows.{Follows}
use Rattle.shared_desk.specs.Asks.{AppendsOrdersIn}
use Rattle.shared_desk.specs.Server.{IsTurnedAwayOverLogAt}
use Rattle.shared_desk.proofs.ServerLemmas.{FollowsBeside}
use Rattle.shared_desk.proofs.server.serve_shared.Given as goal

-- as many connections as the counter says were served, the registry follows the log with what they did, and the cached texts are of
-- that history
abbrev pub invariant-loop : goal.invariant-loop
invariant-loop g l = record {
  endures : Endures (state_of l.initial.registry) (state_of l.registry);
  served : (visits : List Visit)
      × HaveVisited g.C.Connections.opens g.C.Connections.closes g.C.Reader.Source.remaining g.C.Reader.Source.failures g.C.Writer.Sink.contents g.C.Writer.Sink.failures l.initial.connections l.connections visits
      × (length visits ≡ l.counter)
      × ((lines : g.row.L.Denot → LogLines) → KeepsLines g.L.Log lines → (h : History) → Follows g.L.Log lines l.initial.registry l.initial.cursor h → HasCleanDisk (state_of l.registry) → FollowsBeside g.L.Log lines l.initial.cursor h l.registry l.cursor l.cache visits)
      × (is_poisoned l.initial.registry ≡ true → All IsTurnedAwayOverLogAt visits × (l.registry ≡ l.initial.registry) × (l.cursor ≡ l.initial.cursor))
      × ((lines : g.row.L.Denot → LogLines) → KeepsLines g.L.Log lines → (h : History) → Follows g.L.Log lines l.initial.registry l.initial.cursor h → HasCleanDisk (state_of l.registry) → IsLogAsked g.L.Log (AppendsOrdersIn (lines l.cursor.log) h visits) l.initial.cursor.log l.cursor.log);
  notes : NotesForeign l.initial.registry l.registry None;
}
