-- What serving one message writes, and what the registry then represents.
--
-- The response is the one that is written, and the fault is that of the registry behind it.
use Rattle.std.specs.Prelude.{◌≡◌, ◌≢◌, ◌⊎◌, ⊤, ℕ, List, Option, Some, None, Result, Ok, Err, IsOk, IfOk}
use Rattle.sqlite.specs.Store.{Ghosts}
use Rattle.byte_streams.specs.Streams.{Writes}
use Rattle.byte_streams.specs.declared.streams.Broken.{Broken}
use Rattle.registry_rules.specs.History.{History}
use Rattle.registry_store.specs.declared.fault.Fault.{Fault}
use Rattle.registry_store.specs.declared.fault.Fault.TheVariants as faults
use Rattle.registry_store.specs.declared.registry.Registry.{Registry as TheRegistry}
use Rattle.registry_store.specs.Promise.{Represents}
use Rattle.registry_http.specs.declared.response.Response.{Response}
use Rattle.registry_http.specs.declared.refusal.HttpRefusal.{HttpRefusal}
use Rattle.registry_http.specs.declared.message.Message.{Message}
use Rattle.registry_http.specs.Responses.{response_bytes, refusal_response, unavailable_response, IsInPlaceOf}
use Rattle.registry_http.specs.Messages.{Says}
use Rattle.registry_desk.specs.declared.fault.DeskFault.{DeskFault}
use Rattle.registry_desk.specs.declared.fault.DeskFault.TheVariants.{Registry, NoMemory}
use Rattle.registry_desk.specs.Faults.{unavailable_of, registry_fault}
use Rattle.registry_desk.specs.Acting.{IsResponse, after_message, IsOfSoundRegistry, IsLeftUnavailable, IsFaultFor}

-- the response was written to the sink: all of it, with its status, or the sink failed
abbrev pub Sends : {W : Type 0} → (W → Option (List ℕ)) → (W → ℕ) → W → W → Response → Result ℕ Broken → Type 0
Sends contents failures old new response status =
    Writes (contents old) (contents new) (failures old) (failures new) status (response_bytes response) × IfOk status (λ sent. sent ≡ response.status)

-- What is written for a response: that response, or refusal 31 if memory runs out for its head.
abbrev pub IsSent : Response → Response → Option Fault → Type 0
IsSent wanted response fault = IsInPlaceOf response wanted × (fault ≡ None)

-- What is written for what was done: a response, or refusal 30 or 31.
abbrev pub IsTold : Result Response DeskFault → Response → Option Fault → Type 0
IsTold (Ok wanted) response fault = IsSent wanted response fault
IsTold (Err why) response fault = (response ≡ unavailable_response (unavailable_of why)) × (fault ≡ registry_fault why)

-- A fault of the registry is told by refusal 30 or 31, and not by another response.
abbrev pub IsToldBy : Option Fault → Response → Type 0
IsToldBy None response = ⊤
IsToldBy (Some fault) response = response ≡ unavailable_response (unavailable_of (Registry fault))

-- What is written over a poisoned registry, which is not changed: refusal 30 to an order or a query, and its refusal to a
-- message that is refused; refusal 31 may come in place of a refusal.
abbrev pub IsSaidPoisoned : Result Message HttpRefusal → Response → Option Fault → Type 0
IsSaidPoisoned (Ok message) response fault = IsTold (Err (Registry faults.Poisoned)) response fault
IsSaidPoisoned (Err refusal) response fault = IsSent (refusal_response refusal) response fault ⊎ IsTold (Err NoMemory) response fault

-- The response is what is written for all bytes over a poisoned registry that was founded with some vendor, or refusal 31, whatever
-- the message is. Either way the fault is Poisoned, unless the message is refused by itself.
abbrev pub IsTurnedAway : List ℕ → Response → Option Fault → Type 0
IsTurnedAway bytes response fault =
    ((response ≡ unavailable_response (unavailable_of NoMemory)) × (fault ≡ Some faults.Poisoned))
    ⊎ ((founding : ℕ) × (said : Result Message HttpRefusal) × Says founding bytes said × IsSaidPoisoned said response fault)

-- the history that a registry may represent besides h: the one after the message, or h itself if memory ran out before the
-- message was read
abbrev pub IsNext : History → List ℕ → DeskFault → History → Type 0
IsNext h bytes fault next =
    ((fault ≡ NoMemory) × (next ≡ h))
    ⊎ ((said : Result Message HttpRefusal) × Says h.founding.vendor bytes said × (next ≡ after_message h said) × (fault ≢ NoMemory → IsOk said))

module _ {S : Type 0} {g : Ghosts S} where
  -- the response is that to all bytes, and the registry represents the history after the message
  pub record IsAnswered (new : TheRegistry S g) (h : History) (bytes : List ℕ) (response : Response) (fault : Option Fault) : Type 0 where
    pub said : Result Message HttpRefusal
    pub says : Says h.founding.vendor bytes said
    pub is : IsResponse h said response
    pub no_fault : fault ≡ None
    pub represents : Represents new (after_message h said)

  -- the response is refusal 30 or 31, and a crash leaves h or the history after the message
  pub record IsGivenUp (new : TheRegistry S g) (h : History) (bytes : List ℕ) (response : Response) (fault : Option Fault) : Type 0 where
    pub why : DeskFault
    pub kind : IsOfSoundRegistry why
    pub response_is : response ≡ unavailable_response (unavailable_of why)
    pub fault_is : fault ≡ registry_fault why
    pub next : History
    pub next_is : IsNext h bytes why next
    pub left : IsLeftUnavailable why new h next
    pub fault_of : (said : Result Message HttpRefusal) → Says h.founding.vendor bytes said → IsFaultFor said why new

  abbrev pub IsServed : TheRegistry S g → History → List ℕ → Response → Option Fault → Type 0
  IsServed new h bytes response fault = IsAnswered new h bytes response fault ⊎ IsGivenUp new h bytes response fault
