-- What a server does with one connection after another.
--
-- A message gets its response over the history before it, and the next message starts from the history after it. Two kinds
-- of connections differ: one whose reader failed has no message, and one that got refusal 31 because memory ran out has a
-- message that may have been acted on.
use Rattle.std.specs.Prelude.{◌≡◌, ◌≢◌, ◌⊎◌, ⊤, ℕ, List, [], ◌∷◌, ◌++◌, Option, Some, None, Result, Ok, Err, IfOk}
use Rattle.std.specs.Result.{result_ok}
use Rattle.sqlite.specs.Store.{Ghosts}
use Rattle.byte_streams.specs.Streams.{MayGive}
use Rattle.registry_rules.specs.History.{History}
use Rattle.registry_store.specs.declared.fault.Fault.{Fault}
use Rattle.registry_store.specs.declared.registry.Registry.{Registry as TheRegistry}
use Rattle.registry_store.specs.Promise.{Represents}
use Rattle.registry_http.specs.declared.response.Response.{Response}
use Rattle.registry_http.specs.declared.refusal.HttpRefusal.{HttpRefusal}
use Rattle.registry_http.specs.declared.message.Message.{Message}
use Rattle.registry_http.specs.Responses.{response_bytes, unavailable_response}
use Rattle.registry_http.specs.Incomplete.{FailsAfter, IsIncomplete}
use Rattle.registry_http.specs.Messages.{Says}
use Rattle.byte_streams.specs.declared.streams.Broken.{Broken}
use Rattle.registry_desk.specs.declared.fault.DeskFault.TheVariants.{Registry, NoMemory}
use Rattle.registry_desk.specs.declared.serve.Served.{Served}
use Rattle.registry_desk.specs.declared.server.ServerStop.{ServerStop}
use Rattle.registry_desk.specs.declared.server.ServerStop.TheVariants as stops
use Rattle.registry_desk.specs.Faults.{unavailable_of}
use Rattle.registry_store.specs.Files.{IsEither}
use Rattle.registry_desk.specs.Acting.{IsResponse, after_message, IsOfSoundRegistry, IsLeftUnavailable, IsFaultFor}
use Rattle.registry_desk.specs.Serving.{IsNext, IsTurnedAway, Sends}

-- ---- connections

-- one connection: all bytes that its reader would give, the text that was to be written for them, and what was served; an
-- error means that its reader failed
pub record Visit : Type 0 where
  pub bytes : List ℕ
  pub text : List ℕ
  pub end : Result Served Broken

-- the status of the response, if it was written whole
abbrev pub status_of : Result Served Broken → Option ℕ
status_of (Ok served) = result_ok served.status
status_of (Err broken) = None

-- the fault of the registry behind the response
abbrev pub fault_behind : Result Served Broken → Option Fault
fault_behind (Ok served) = served.fault
fault_behind (Err broken) = None

-- The text is a response, and it was written: all of it, with its status, or the writer failed. Nothing was written if the
-- reader failed.
abbrev pub IsResponseWritten : {W : Type 0} → (W → Option (List ℕ)) → (W → ℕ) → W → W → Visit → Type 0
IsResponseWritten contents failures old new visit = WrittenAt visit.end
  where
    WrittenAt : Result Served Broken → Type 0
    WrittenAt (Ok served) = (response : Response) × (visit.text ≡ response_bytes response) × Sends contents failures old new response served.status
    WrittenAt (Err broken) = new ≡ old

-- a message came, and its reader did not fail; or the reader failed before the message was complete
abbrev pub IsRead : {R : Type 0} → (R → Option (List ℕ)) → (R → ℕ) → R → R → Visit → Type 0
IsRead remaining failures old new visit = ReadAt visit.end
  where
    ReadAt : Result Served Broken → Type 0
    ReadAt (Ok served) = failures new ≡ failures old
    ReadAt (Err broken) = FailsAfter (remaining old) (remaining new) (failures old) (failures new) IsIncomplete

-- a message came, and if its response was written whole, it has this status
abbrev pub IsSentWith : Result Served Broken → ℕ → Type 0
IsSentWith (Ok served) status = IfOk served.status (λ sent. sent ≡ status)
IsSentWith (Err broken) status = ⊥

module _ {C R W : Type 0} (opens : C → C → R → W → Type 0) (closes : C → C → R → W → Option ℕ → Type 0) (remaining : R → Option (List ℕ)) (reads_failed : R → ℕ) (contents : W → Option (List ℕ)) (writes_failed : W → ℕ) where
  -- a connection was opened, its message was served, and it was closed
  pub record IsVisit (old new : C) (visit : Visit) : Type 0 where
    pub opened : C
    pub reader : R
    pub reader_new : R
    pub writer : W
    pub writer_new : W
    pub opens_with : opens old opened reader writer
    pub gives : MayGive (remaining reader) visit.bytes
    pub read : IsRead remaining reads_failed reader reader_new visit
    pub written : IsResponseWritten contents writes_failed writer writer_new visit
    pub status : Option ℕ
    pub status_is : status ≡ status_of visit.end
    pub closes_with : closes opened new reader_new writer_new status

  -- these connections were served so, one after another
  abbrev pub HaveVisited : C → C → List Visit → Type 0
  HaveVisited old new [] = new ≡ old
  HaveVisited old new (visit ∷ visits) = (middle : C) × IsVisit old middle visit × HaveVisited middle new visits

-- A fault of the registry was told by refusal 30 or 31, with status 503 if all was written.
abbrev pub IsToldAt : Visit → Option Fault → Type 0
IsToldAt visit None = ⊤
IsToldAt visit (Some fault) = (visit.text ≡ response_bytes (unavailable_response (unavailable_of (Registry fault)))) × IsSentWith visit.end 503

-- What a connection gets over a poisoned registry, which is not changed: its message is turned away, with the status of what
-- was written if all was. The fault is that of the registry, unless the message is refused by itself or did not come.
abbrev pub IsTurnedAwayAt : Visit → Option Fault → Type 0
IsTurnedAwayAt visit fault = TurnedAt visit.end
  where
    TurnedAt : Result Served Broken → Type 0
    TurnedAt (Ok served) = (response : Response) × (visit.text ≡ response_bytes response) × IfOk served.status (λ sent. sent ≡ response.status) × IsTurnedAway visit.bytes response served.fault × (fault ≡ served.fault)
    TurnedAt (Err broken) = fault ≡ None

-- Each of these connections was turned away, without a fault of the registry; the last one may have this fault.
abbrev pub AreTurnedAway : List Visit → Option Fault → Type 0
AreTurnedAway [] fault = fault ≡ None
AreTurnedAway (visit ∷ visits) fault = ((visits ≡ []) × IsTurnedAwayAt visit fault) ⊎ (IsTurnedAwayAt visit None × AreTurnedAway visits fault)

-- ---- histories

-- the text is the response to all bytes over the history, with its status if all was written, and the next history is the
-- one after the message
pub record IsResponded (h : History) (visit : Visit) (next : History) : Type 0 where
  pub said : Result Message HttpRefusal
  pub says : Says h.founding.vendor visit.bytes said
  pub response : Response
  pub is : IsResponse h said response
  pub text_is : visit.text ≡ response_bytes response
  pub status_is : IsSentWith visit.end response.status
  pub next_is : next ≡ after_message h said

-- The text is refusal 31, with status 503 if all was written, and the next history is the one after the message or the same. That
-- memory ran out is not said.
pub record IsShort (h : History) (visit : Visit) (next : History) : Type 0 where
  pub text_is : visit.text ≡ response_bytes (unavailable_response (unavailable_of NoMemory))
  pub status_is : IsSentWith visit.end 503
  pub next_is : IsNext h visit.bytes NoMemory next

-- one connection leads from the history h to the next one
abbrev pub IsTurn : History → Visit → History → Type 0
IsTurn h visit next = TurnAt visit.end
  where
    TurnAt : Result Served Broken → Type 0
    TurnAt (Ok served) = IsResponded h visit next ⊎ IsShort h visit next
    TurnAt (Err broken) = next ≡ h

-- connections lead from the first history to the last, one after another
abbrev pub Turns : History → List Visit → History → Type 0
Turns h [] next = next ≡ h
Turns h (visit ∷ visits) next = (middle : History) × IsTurn h visit middle × Turns middle visits next

-- ---- the registry

module _ {S : Type 0} {g : Ghosts S} where
  -- the registry represents the history after the messages of all these connections, in their order
  abbrev pub RepresentsAfter : TheRegistry S g → History → List Visit → Type 0
  RepresentsAfter it h visits = (next : History) × Turns h visits next × Represents it next

  -- The registry had a fault at this connection: its message came, and refusal 30 or 31 was written, with status 503, or the
  -- writer failed. A crash leaves the history before its message or after it.
  pub record IsStoppedAtVisit (it : TheRegistry S g) (h : History) (visit : Visit) (fault : Fault) : Type 0 where
    pub kind : IsOfSoundRegistry (Registry fault)
    pub text_is : visit.text ≡ response_bytes (unavailable_response (unavailable_of (Registry fault)))
    pub status_is : IsSentWith visit.end 503
    pub next : History
    pub next_is : IsNext h visit.bytes (Registry fault) next
    pub left : IsLeftUnavailable (Registry fault) it h next
    pub fault_of : (said : Result Message HttpRefusal) → Says h.founding.vendor visit.bytes said → IsFaultFor said (Registry fault) it

  -- The registry had a fault at the last of these connections: a crash leaves the history after all messages before it, or
  -- after its own.
  pub record IsStoppedServing (it : TheRegistry S g) (h : History) (visits : List Visit) (fault : Fault) : Type 0 where
    pub before : List Visit
    pub last : Visit
    pub all : visits ≡ before ++ last ∷ []
    pub middle : History
    pub turns : Turns h before middle
    pub halted : IsStoppedAtVisit it middle last fault

  -- how serving one connection ends, without a fault of the registry or with one
  abbrev pub EndsVisit : TheRegistry S g → History → Visit → Option Fault → Type 0
  EndsVisit it h visit None = (next : History) × IsTurn h visit next × Represents it next
  EndsVisit it h visit (Some fault) = IsStoppedAtVisit it h visit fault

-- the fault of the registry that stopped a server
abbrev pub fault_in_server : Result (Unit {0}) ServerStop → Option Fault
fault_in_server (Ok done) = None
fault_in_server (Err stops.Connections) = None
fault_in_server (Err (stops.Registry fault)) = Some fault

-- this holds if a connection came
abbrev pub IfVisited : Result (Unit {0}) ServerStop → Type 0 → Type 0
IfVisited (Ok done) P = P
IfVisited (Err stops.Connections) P = ⊤
IfVisited (Err (stops.Registry fault)) P = P

-- the connections are as the last one left them, or no further one could come
abbrev pub EndsConnections : {C : Type 0} → (C → C → Type 0) → C → C → Result (Unit {0}) ServerStop → Type 0
EndsConnections fails middle new (Ok done) = new ≡ middle
EndsConnections fails middle new (Err stops.Connections) = fails middle new
EndsConnections fails middle new (Err (stops.Registry fault)) = new ≡ middle

-- ---- crashes

-- The text for the last of these connections is refusal 30 or 31, as for some fault of the registry: this is the history after all
-- messages before it, or after its own. That the registry had that fault is not said.
pub record IsServedInPart (h : History) (visits : List Visit) (x : History) : Type 0 where
  pub before : List Visit
  pub last : Visit
  pub all : visits ≡ before ++ last ∷ []
  pub middle : History
  pub turns : Turns h before middle
  pub fault : Fault
  pub text_is : last.text ≡ response_bytes (unavailable_response (unavailable_of (Registry fault)))
  pub status_is : IsSentWith last.end 503
  pub next : History
  pub next_is : IsNext middle last.bytes (Registry fault) next
  pub is : IsEither middle next x

-- What a crash leaves: the history after the messages of all these connections, or of all but the last one, if the registry
-- had a fault there. So it holds each message whose response was written whole with a status other than 503. A message that
-- got refusal 30 or 31, with status 503, may be held or not. A message whose writer failed is held unless its response was
-- one of these refusals.
abbrev pub IsLeftAfter : History → List Visit → History → Type 0
IsLeftAfter h visits x = Turns h visits x ⊎ IsServedInPart h visits x

-- the response was written whole, with a status other than 503
abbrev pub IsAnsweredWhole : Visit → Type 0
IsAnsweredWhole visit = (status : ℕ) × (status_of visit.end ≡ Some status) × (status ≢ 503)

-- the history after the message in these bytes
abbrev pub IsAfterMessage : History → List ℕ → History → Type 0
IsAfterMessage h bytes next = (said : Result Message HttpRefusal) × Says h.founding.vendor bytes said × (next ≡ after_message h said)

-- x is the history after the messages of some of these connections, in their order: at least of each one whose response was
-- written whole with a status other than 503
abbrev pub HoldsAnswered : History → List Visit → History → Type 0
HoldsAnswered h [] x = x ≡ h
HoldsAnswered h (visit ∷ visits) x =
    (middle : History) × (IsAfterMessage h visit.bytes middle ⊎ ((middle ≡ h) × ¬ IsAnsweredWhole visit)) × HoldsAnswered middle visits x

-- a crash leaves each message whose response was written whole with a status other than 503
abbrev pub LeavesAnswered : Type 0
LeavesAnswered = (h : History) (visits : List Visit) (x : History) → IsLeftAfter h visits x → HoldsAnswered h visits x

module _ {S : Type 0} {g : Ghosts S} where
  abbrev pub EndsServing : TheRegistry S g → History → List Visit → Option Fault → Type 0
  EndsServing it h visits None = RepresentsAfter it h visits
  EndsServing it h visits (Some fault) = IsStoppedServing it h visits fault
