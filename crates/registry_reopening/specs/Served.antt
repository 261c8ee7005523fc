-- What the next opening of a store finds after connections were served.
use Rattle.std.specs.Prelude.{◌≡◌, true, List, Option}
use Rattle.sqlite.specs.Store.{Ghosts}
use Rattle.sqlite.specs.State.{HasCleanDisk}
use Rattle.registry_rules.specs.History.{History}
use Rattle.registry_tables.specs.Rows.{newest}
use Rattle.registry_store.specs.declared.fault.Fault.{Fault}
use Rattle.registry_store.specs.declared.registry.Registry.{Registry as TheRegistry}
use Rattle.registry_store.specs.Promise.{Leaves, Represents, is_poisoned, state_of}
use Rattle.registry_desk.specs.Server.{Visit, AreTurnedAway, EndsServing, IsLeftAfter}

module _ {S : Type 0} {g : Ghosts S} where
  -- These connections were served over the first registry as `serve_all` says, perhaps with a fault. The last registry is one of
  -- which that is true; nobody sees whether it is the one that was let go.
  pub record AreServedOver (first : TheRegistry S g) (visits : List Visit) (fault : Option Fault) : Type 0 where
    pub last : TheRegistry S g
    pub served : (h : History) → Represents first h → HasCleanDisk (state_of last) → EndsServing last h visits fault × Leaves newest (state_of last) (IsLeftAfter h visits)
    pub poisoned : is_poisoned first ≡ true → AreTurnedAway visits fault

  -- The opened registry represents a history that a crash leaves after these connections: the one after the messages of all
  -- of them, or of all but the last one, if the registry had a fault there.
  abbrev pub IsReopenedAfterServing : TheRegistry S g → List Visit → TheRegistry S g → Type 0
  IsReopenedAfterServing first visits it = (h : History) → Represents first h → HasCleanDisk (state_of it) → ∥ ((x : History) × IsLeftAfter h visits x × Represents it x) ∥₁
