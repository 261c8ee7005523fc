use Rattle.std.proofs.Common.{◌≡◌, List, length}
use Rattle.std.specs.Prelude.{true, false, None}
use Rattle.sqlite.specs.State.{HasCleanDisk}
use Rattle.registry_rules.specs.History.{History}
use Rattle.registry_store.specs.Promise.{Represents, Endures, NotesForeign, is_poisoned, state_of}
use Rattle.registry_desk.specs.Server.{Visit, HaveVisited, AreTurnedAway}
use Rattle.registry_desk.specs.Cache.{no_texts}
use Rattle.registry_desk.proofs.ServerLemmas.{RepresentsBeside}
use Rattle.registry_desk.proofs.server.serve_all.Given as goal

-- as many connections as the counter says were served, and the registry represents the history after their messages, of
-- and the cached texts are of that history
abbrev pub invariant-loop : goal.invariant-loop
invariant-loop g l = record {
  endures : Endures (state_of l.initial.registry) (state_of l.registry);
  served : (visits : List Visit)
      × HaveVisited g.C.Connections.opens g.C.Connections.closes g.C.Reader.Source.remaining g.C.Reader.Source.failures g.C.Writer.Sink.contents g.C.Writer.Sink.failures l.initial.connections l.connections visits
      × (length visits ≡ l.counter)
      × ((h : History) → Represents l.initial.registry h → HasCleanDisk (state_of l.registry) → RepresentsBeside l.registry l.cache h visits)
      × (is_poisoned l.initial.registry ≡ true → AreTurnedAway visits None × (l.registry ≡ l.initial.registry) × (l.cache ≡ no_texts));
  goes_on : is_poisoned l.initial.registry ≡ false → is_poisoned l.registry ≡ false;
  notes : NotesForeign l.initial.registry l.registry None;
}
