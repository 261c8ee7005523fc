-- What a server over a shared log does with one connection after another.
--
-- A connection leads from a place in the log and a history to others. The history after it is that of a machine that shares the log:
-- so each order that was answered is in the log.
use Rattle.std.specs.Prelude.{◌≡◌, ◌⊎◌, ⊤, true, false, List, [], ◌∷◌, ◌++◌, Option, None, Some, Result, Ok, Err, if◌then◌else◌}
use Rattle.sqlite.specs.Store.{Ghosts}
use Rattle.byte_streams.specs.declared.streams.Broken.{Broken}
use Rattle.registry_rules.specs.History.{History}
use Rattle.registry_laws.specs.Machines.{IsOfMachine, LeadsToLater}
use Rattle.registry_store.specs.declared.registry.Registry.{Registry}
use Rattle.registry_http.specs.declared.message.Message.{Message}
use Rattle.registry_http.specs.declared.refusal.HttpRefusal.{HttpRefusal}
use Rattle.registry_http.specs.declared.response.Response.{Response}
use Rattle.registry_http.specs.Messages.{Says}
use Rattle.registry_http.specs.Responses.{response_bytes, unavailable_response}
use Rattle.registry_desk.specs.declared.cache.Cache.{Cache}
use Rattle.registry_desk.specs.declared.serve.Served.{Served}
use Rattle.registry_desk.specs.Cache.{AreTextsOf}
use Rattle.registry_desk.specs.Server.{Visit, IsSentWith}
use Rattle.shared_log.specs.Calls.{LogLines}
use Rattle.shared_log.specs.declared.fault.LogFault.{LogFault}
use Rattle.shared_log.specs.declared.log.Log.{Ghosts as LogGhosts}
use Rattle.shared_registry.specs.Follows.{Follows, HasFailed}
use Rattle.shared_registry.specs.declared.cursor.Cursor.{Cursor}
use Rattle.shared_registry.specs.declared.stop.ShareStop.{ShareStop}
use Rattle.shared_registry.specs.declared.stop.ShareStop.TheVariants as stops
use Rattle.shared_desk.specs.declared.serve.Turn.{Turn}
use Rattle.shared_desk.specs.declared.server.SharedStop.{SharedStop}
use Rattle.shared_desk.specs.declared.server.SharedStop.TheVariants as ends
use Rattle.shared_desk.specs.Answers.{IsAnswerOver}
use Rattle.shared_desk.specs.Refusals.{may_pass, unavailable_for}
use Rattle.shared_desk.specs.Serving.{IsRefusedAlone, IsUnserved}

-- ---- what is written

-- what was written to a connection
abbrev pub served_in : Result Turn Broken → Result Served Broken
served_in (Ok turn) = Ok turn.served
served_in (Err broken) = Err broken

-- what of this stop ends the server
abbrev pub ends_by : Option ShareStop → Option ShareStop
ends_by None = None
ends_by (Some stop) = if may_pass stop then None else Some stop

-- what ends the server after a connection
abbrev pub stop_to_end : Result Turn Broken → Option ShareStop
stop_to_end (Ok turn) = ends_by turn.stop
stop_to_end (Err broken) = None

-- what ended the server, if it was not a lack of connections
abbrev pub stop_in_server : Result (Unit {0}) SharedStop → Option ShareStop
stop_in_server (Ok done) = None
stop_in_server (Err ends.Connections) = None
stop_in_server (Err (ends.Share stop)) = Some stop

-- this holds if a connection came
abbrev pub IfVisitedOverLog : Result (Unit {0}) SharedStop → Type 0 → Type 0
IfVisitedOverLog (Ok done) P = P
IfVisitedOverLog (Err ends.Connections) P = ⊤
IfVisitedOverLog (Err (ends.Share stop)) P = P

-- the connections are as the last one left them, or no further one could come
abbrev pub EndsConnectionsOverLog : {C : Type 0} → (C → C → Type 0) → C → C → Result (Unit {0}) SharedStop → Type 0
EndsConnectionsOverLog fails middle new (Ok done) = new ≡ middle
EndsConnectionsOverLog fails middle new (Err ends.Connections) = fails middle new
EndsConnectionsOverLog fails middle new (Err (ends.Share stop)) = new ≡ middle

-- the refusal for this stop was to be written, with status 503 if all was
pub record IsStopTold (visit : Visit) (stop : ShareStop) : Type 0 where
  pub text_is : visit.text ≡ response_bytes (unavailable_response (unavailable_for stop))
  pub status_is : IsSentWith visit.end 503

-- what ends the server is told at its connection
abbrev pub IsToldOverLogAt : Visit → Option ShareStop → Type 0
IsToldOverLogAt visit None = ⊤
IsToldOverLogAt visit (Some stop) = IsStopTold visit stop × (may_pass stop ≡ false)

-- and that is the last one
abbrev pub IsToldLast : List Visit → Option ShareStop → Type 0
IsToldLast visits None = ⊤
IsToldLast visits (Some stop) = (before : List Visit) × (last : Visit) × (visits ≡ before ++ last ∷ []) × IsToldOverLogAt last (Some stop)

-- what a connection gets over a poisoned registry: refusal 30 or 31, or its own one if its message is refused by itself
abbrev pub IsTurnedAwayOverLogAt : Visit → Type 0
IsTurnedAwayOverLogAt visit = TurnedAt visit.end
  where
    TurnedAt : Result Served Broken → Type 0
    TurnedAt (Ok served) = ((stop : ShareStop) × IsStopTold visit stop) ⊎ ((response : Response) × (visit.text ≡ response_bytes response) × IsRefusedAlone visit.bytes response)
    TurnedAt (Err broken) = ⊤

-- ---- histories

module _ {L : Type 0} (l : LogGhosts L) (lines : L → LogLines) where
  module _ (c : Cursor L) (h : History) (visit : Visit) (c_new : Cursor L) (next : History) where
    -- the text is the response to all bytes, with its status if all was written
    pub record IsRespondedOver : Type 0 where
      pub said : Result Message HttpRefusal
      pub says : Says h.founding.vendor visit.bytes said
      pub response : Response
      pub text_is : visit.text ≡ response_bytes response
      pub status_is : IsSentWith visit.end response.status
      pub answer : IsAnswerOver lines c c_new h said response next

    -- The text is a refusal for what may pass. If that is a call of the log without an answer, there was one.
    pub record IsPassedOver : Type 0 where
      pub stop : ShareStop
      pub passes : may_pass stop ≡ true
      pub told : IsStopTold visit stop
      pub leads : LeadsToLater h next
      pub failed : (fault : LogFault) → stop ≡ stops.Log fault → HasFailed l lines c.log c_new.log fault

    -- one connection leads from one history to the next
    abbrev pub IsTurnOver : Type 0
    IsTurnOver = TurnAt visit.end
      where
        TurnAt : Result Served Broken → Type 0
        TurnAt (Ok served) = IsRespondedOver ⊎ IsPassedOver
        TurnAt (Err broken) = (next ≡ h) × (c_new ≡ c)

  -- connections lead from the first history to the last, one after another, and the log has the record of each
  abbrev pub TurnsOver : Cursor L → History → List Visit → Cursor L → History → Type 0
  TurnsOver c h [] c_new next = (c_new ≡ c) × (next ≡ h)
  TurnsOver c h (visit ∷ visits) c_new next =
      (middle : Cursor L) × (x : History) × IsTurnOver c h visit middle x × IsOfMachine (lines middle.log) x × TurnsOver middle x visits c_new next

module _ {S : Type 0} {g : Ghosts S} {L : Type 0} (l : LogGhosts L) (lines : L → LogLines) (c : Cursor L) (it_new : Registry S g) (c_new : Cursor L) (h : History) where
  -- how one connection ends, with the texts that are cached after it
  abbrev pub EndsBeside : Visit → Cache → Option ShareStop → Type 0
  EndsBeside visit cache None = (next : History) × IsTurnOver l lines c h visit c_new next × Follows l lines it_new c_new next × AreTextsOf next cache
  EndsBeside visit cache (Some stop) = IsUnserved l lines c it_new c_new h visit.bytes stop

  -- the last of these connections ended the server
  pub record IsStoppedOver (visits : List Visit) (stop : ShareStop) : Type 0 where
    pub before : List Visit
    pub last : Visit
    pub all : visits ≡ before ++ last ∷ []
    pub place : Cursor L
    pub middle : History
    pub turns : TurnsOver l lines c h before place middle
    pub left : IsUnserved l lines place it_new c_new middle last.bytes stop

  -- how a server ends
  abbrev pub EndsOver : List Visit → Option ShareStop → Type 0
  EndsOver visits None = (next : History) × TurnsOver l lines c h visits c_new next × Follows l lines it_new c_new next
  EndsOver visits (Some stop) = IsStoppedOver visits stop
