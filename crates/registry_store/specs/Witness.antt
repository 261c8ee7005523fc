-- What a witness sees of a request before it is committed.
use Rattle.std.specs.Prelude.{◌≡◌, ◌⊎◌, ⊤, ℕ, true, false, Option, Some, None, List, Result, Ok, Err}
use Rattle.sqlite.specs.Store.{Ghosts}
use Rattle.usbnum_core.specs.declared.error.NoMemory.{NoMemory}
use Rattle.registry_rules.specs.declared.order.Request.{Request}
use Rattle.registry_rules.specs.declared.verdict.Reply.{Reply}
use Rattle.registry_rules.specs.declared.verdict.Reply.TheVariants.{Done}
use Rattle.registry_store.specs.declared.fault.Fault.{Fault}
use Rattle.registry_store.specs.declared.fault.Fault.TheVariants.{Store, NoMemory as OutOfMemory}
use Rattle.registry_store.specs.declared.witness.ActStop.{ActStop}
use Rattle.registry_store.specs.declared.witness.ActStop.TheVariants as stops
use Rattle.registry_store.specs.declared.witness.Nobody.{Nobody}
use Rattle.registry_store.specs.declared.registry.Registry.{Registry}
use Rattle.registry_store.specs.Promise.{is_poisoned, poisoned_by}

-- nobody has to see a request
abbrev pub lets_pass : Nobody → Nobody → Request → List ℕ → Type 0
lets_pass old new r text = ⊤

abbrev pub never_misses : Nobody → Nobody → Request → List ℕ → NoMemory → Type 0
never_misses old new r text why = ⊥

-- the request was seen, with the text of this reply
abbrev pub WasSeen : {W : Type 0} → (W → W → Request → List ℕ → Type 0) → W → W → Request → Reply → Type 0
WasSeen saw old new r reply = (text : List ℕ) × (reply ≡ Done text) × saw old new r text

-- the fault that a call ended with, if it ended with one
abbrev pub fault_in : {A Y : Type 0} → Result A (ActStop Y) → Option Fault
fault_in (Ok it) = None
fault_in (Err (stops.Fault fault)) = Some fault
fault_in (Err (stops.Unwitnessed why)) = None

-- this holds of the reason, if the request was not seen
abbrev pub IfUnwitnessed : {Y : Type 0} → (Y → Type 0) → ActStop Y → Type 0
IfUnwitnessed P (stops.Fault fault) = ⊤
IfUnwitnessed P (stops.Unwitnessed why) = P why

-- a fault is of the store or of memory
abbrev pub IsOfStoreOrMemory : {Y : Type 0} → ActStop Y → Type 0
IsOfStoreOrMemory (stops.Fault fault) = (fault ≡ Store) ⊎ (fault ≡ OutOfMemory)
IsOfStoreOrMemory (stops.Unwitnessed why) = ⊤

module _ {W Y : Type 0} (saw : W → W → Request → List ℕ → Type 0) (missed : W → W → Request → List ℕ → Y → Type 0) (old new : W) (r : Request) (text : List ℕ) where
  -- The witness was asked about this request with this text, once, or a fault came before.
  abbrev pub Hears : {A F : Type 0} → Result (Result A Y) F → Type 0
  Hears (Ok (Ok it)) = saw old new r text
  Hears (Ok (Err why)) = missed old new r text why
  Hears (Err fault) = (new ≡ old) ⊎ saw old new r text

  -- the same of what a registry returns
  abbrev pub IsHeard : {A : Type 0} → Result A (ActStop Y) → Type 0
  IsHeard (Ok it) = saw old new r text
  IsHeard (Err (stops.Unwitnessed why)) = missed old new r text why
  IsHeard (Err (stops.Fault fault)) = (new ≡ old) ⊎ saw old new r text

module _ {S : Type 0} {g : Ghosts S} where
  -- After a fault the registry is poisoned. If the request was not seen it is not.
  abbrev pub PoisonsByFault : {Y : Type 0} → Registry S g → ActStop Y → Type 0
  PoisonsByFault it (stops.Fault fault) = is_poisoned it ≡ true
  PoisonsByFault it (stops.Unwitnessed why) = is_poisoned it ≡ false

  -- After a fault the registry is poisoned by it. If the request was not seen it is not poisoned.
  abbrev pub IsPoisonedBy : {Y : Type 0} → Registry S g → ActStop Y → Type 0
  IsPoisonedBy it (stops.Fault fault) = poisoned_by it ≡ Some fault
  IsPoisonedBy it (stops.Unwitnessed why) = is_poisoned it ≡ false
