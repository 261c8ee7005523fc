-- Serving one message.
use Rattle.std.proofs.Common.{sym, ◌≡◌, inl, inr, Bool, true, false, ℕ, List, Option, Some, None, refl, ap, subst, ◌∙◌}
use Rattle.std.specs.Prelude.{◌≢◌, Result, Ok, Err, IfOk, IfErr, IsOk, OnOk}
use Rattle.sqlite.specs.Store.{Ghosts}
use Rattle.sqlite.specs.State.{HasCleanDisk}
use Rattle.registry_rules.specs.History.{History}
use Rattle.registry_store.specs.declared.registry.Registry.{Registry as TheRegistry}
use Rattle.registry_store.specs.declared.fault.Fault.{Fault}
use Rattle.registry_store.specs.declared.fault.Fault.TheVariants as faults
use Rattle.registry_store.specs.Promise.{Represents, state_of}
use Rattle.registry_http.specs.declared.response.Response.{Response}
use Rattle.registry_http.specs.declared.refusal.HttpRefusal.{HttpRefusal}
use Rattle.registry_http.specs.declared.message.Message.{Message}
use Rattle.registry_http.specs.declared.message.Message.TheVariants as messages
use Rattle.registry_http.specs.Responses.{refusal_response, json_response, unavailable_response, IsInPlaceOf}
use Rattle.registry_http.specs.declared.unavailable.Unavailable.TheVariants as unavailable
use Rattle.registry_http.specs.Messages.{Says}
use Rattle.registry_http.proofs.MessageLemmas.{message_says_one_thing}
use Rattle.registry_desk.specs.declared.fault.DeskFault.{DeskFault}
use Rattle.registry_desk.specs.declared.fault.DeskFault.TheVariants.{NoMemory, Registry}
use Rattle.registry_store.specs.Faults.{is_foreign_fault}
use Rattle.registry_desk.specs.Faults.{fault_of_done, unavailable_of}
use Rattle.registry_http.specs.declared.unavailable.Unavailable.{Unavailable}
use Rattle.registry_desk.specs.Acting.{IsResponse, after_message, IsOfSoundRegistry, IsLeftUnavailable, IsFaultFor}
use Rattle.registry_desk.specs.Serving.{IsSaidPoisoned, IsSent, IsTold, IsToldBy, IsServed}
use Rattle.registry_desk.proofs.AskLemmas.{left_first, left_second}

-- refusals 30 and 31 have status 503
pub status_503 : (why : Unavailable) → (unavailable_response why).status ≡ 503
unfolding refusal_response json_response
status_503 unavailable.NoMemory = refl
status_503 unavailable.StoreFault = refl

module _ {S : Type 0} {g : Ghosts S} where
  -- memory may run out for any message
  of_memory : (it : TheRegistry S g) (said : Result Message HttpRefusal) → IsFaultFor said NoMemory it
  of_memory it (Err refusal) = refl
  of_memory it (Ok (messages.Query query)) = inl refl
  of_memory it (Ok (messages.Request request)) = tt

  -- memory ran out before the message was read
  pub served_early : (it : TheRegistry S g) (h : History) (bytes : List ℕ) (fault : Option Fault) → fault ≡ None → Represents it h → HasCleanDisk (state_of it)
      → IsServed it h bytes (unavailable_response (unavailable_of NoMemory)) fault
  served_early it h bytes fault none stands clean = inr (record {
    why = NoMemory;
    kind = tt;
    response_is = refl;
    fault_is = none;
    next = h;
    next_is = inl (refl, refl);
    left = left_first it h h stands clean;
    fault_of = λ said says. of_memory it said;
  })

  -- the message was read, and its response was sent, or refusal 31 in its place
  sent_then : (new : TheRegistry S g) (h : History) (bytes : List ℕ) (wanted response : Response) (fault : Option Fault) (said : Result Message HttpRefusal)
      → Says h.founding.vendor bytes said → HasCleanDisk (state_of new)
      → IsResponse h said wanted × Represents new (after_message h said)
      → IsInPlaceOf response wanted → fault ≡ None → IsServed new h bytes response fault
  sent_then new h bytes wanted response fault said says clean ok (inl same) none = inl (record {
    said = said;
    says = says;
    is = subst (λ (r : Response). IsResponse h said r) (sym same) ok.0;
    no_fault = none;
    represents = ok.1;
  })
  sent_then new h bytes wanted response fault said says clean ok (inr short) none = inr (record {
    why = NoMemory;
    kind = tt;
    response_is = short;
    fault_is = none;
    next = after_message h said;
    next_is = inr (said, says, refl, λ other. absurd (other refl));
    left = left_second new h (after_message h said) ok.1 clean;
    fault_of = λ other same. of_memory new other;
  })

  -- the message was read and acted on
  pub served_then : (new : TheRegistry S g) (h : History) (bytes : List ℕ) (response : Response) (fault : Option Fault) (said : Result Message HttpRefusal) (done : Result Response DeskFault)
      → Says h.founding.vendor bytes said → HasCleanDisk (state_of new)
      → IfOk done (λ response. IsResponse h said response × Represents new (after_message h said))
      → IfErr done (λ fault. IsOfSoundRegistry fault × IsFaultFor said fault new × IsLeftUnavailable fault new h (after_message h said))
      → IfErr done (λ fault. fault ≢ NoMemory → IsOk said)
      → IsTold done response fault → IsServed new h bytes response fault
  served_then new h bytes response fault said (Ok wanted) says clean ok err asked told = sent_then new h bytes wanted response fault said says clean ok told.0 told.1
  served_then new h bytes response fault said (Err why) says clean ok err asked told = inr (record {
    why = why;
    kind = err.0;
    response_is = told.0;
    fault_is = told.1;
    next = after_message h said;
    next_is = inr (said, says, refl, asked);
    left = err.2;
    fault_of = λ other same. subst (λ (s : Result Message HttpRefusal). IsFaultFor s why new) (message_says_one_thing h.founding.vendor bytes said other says same) err.1;
  })

  -- the message was read, and the registry was poisoned
  pub turned_away : (it new : TheRegistry S g) (said : Result Message HttpRefusal) (done : Result Response DeskFault) (response : Response) (fault : Option Fault)
      → IfErr said (λ refusal. IfOk done (λ response. response ≡ refusal_response refusal) × IfErr done (λ fault. fault ≡ NoMemory) × (new ≡ it))
      → OnOk said ((done ≡ Err (Registry faults.Poisoned)) × (new ≡ it))
      → IsTold done response fault → IsSaidPoisoned said response fault × (new ≡ it)
  turned_away it new (Ok message) done response fault refused poisoned told =
      (subst (λ (d : Result Response DeskFault). IsTold d response fault) poisoned.0 told, poisoned.1)
  turned_away it new (Err refusal) (Ok wanted) response fault refused poisoned told = (inl (subst (λ (r : Response). IsSent r response fault) refused.0 told), refused.2)
  turned_away it new (Err refusal) (Err why) response fault refused poisoned told =
      (inr (subst (λ (f : DeskFault). IsTold (Err f) response fault) refused.1 told), refused.2)

-- the fault is that of the registry
pub same_fault : (done : Result Response DeskFault) (response : Response) (fault : Option Fault) → IsTold done response fault → fault ≡ fault_of_done done
same_fault (Ok wanted) response fault told = told.1
same_fault (Err why) response fault told = told.1

-- it is told
pub told_by : (done : Result Response DeskFault) (response : Response) (fault : Option Fault) → IsTold done response fault → IsToldBy fault response
told_by (Ok wanted) response fault told = subst (λ (f : Option Fault). IsToldBy f response) (sym told.1) tt
told_by (Err NoMemory) response fault told = subst (λ (f : Option Fault). IsToldBy f response) (sym told.1) tt
told_by (Err (Registry why)) response fault told = subst (λ (f : Option Fault). IsToldBy f response) (sym told.1) told.0

-- a poisoned registry was not asked
pub not_asked : (spent : Bool) (fault : Option Fault) → (spent ≡ true → fault ≡ Some faults.Poisoned) → (spent ≡ false → fault ≡ None) → is_foreign_fault fault ≡ false
not_asked true fault poisoned none = ap is_foreign_fault (poisoned refl)
not_asked false fault poisoned none = ap is_foreign_fault (none refl)

-- the fault is Poisoned only if that was the fault of the registry
pub tells_poisoned : (done : Result Response DeskFault) (response : Response) (fault : Option Fault) → IsTold done response fault → fault ≡ Some faults.Poisoned → done ≡ Err (Registry faults.Poisoned)
tells_poisoned (Ok wanted) response fault told poisoned = let none = sym told.1 ∙ poisoned in absurd cc
tells_poisoned (Err NoMemory) response fault told poisoned = let none = sym told.1 ∙ poisoned in absurd cc
tells_poisoned (Err (Registry why)) response fault told poisoned = let same = sym told.1 ∙ poisoned in cc
