-- What a run whose replies go to a list leaves.
use Rattle.std.specs.Prelude.{◌≡◌, ◌⊎◌, ◌<◌, List, length, take, Option, Some, None}
use Rattle.sqlite.specs.Store.{Ghosts}
use Rattle.registry_rules.specs.declared.order.Request.{Request}
use Rattle.registry_rules.specs.declared.verdict.Reply.{Reply}
use Rattle.registry_rules.specs.History.{History}
use Rattle.registry_rules.specs.Run.{after, replies_to}
use Rattle.registry_tables.specs.Rows.{newest}
use Rattle.registry_store.specs.declared.fault.Fault.{Fault}
use Rattle.registry_store.specs.declared.fault.Fault.TheVariants.{Store, NoMemory}
use Rattle.registry_store.specs.declared.registry.Registry.{Registry}
use Rattle.registry_store.specs.Promise.{state_of, Leaves, Represents}
use Rattle.registry_store.specs.Run.{IsAfterOrNext}

module _ {S : Type 0} {g : Ghosts S} where
  -- the replies are those to all requests, and the registry represents the history after them
  pub record IsDone (it : Registry S g) (h : History) (rs : List Request) (replies : List Reply) : Type 0 where
    pub all : replies ≡ replies_to h rs
    pub represents : Represents it (after h rs)

  -- A fault stopped the run early, of the store or of memory. The replies are a prefix of those to the requests, and a crash
  -- leaves the answered requests and at most one more.
  pub record IsStopped (it : Registry S g) (h : History) (rs : List Request) (replies : List Reply) (fault : Fault) : Type 0 where
    pub within : length replies < length rs
    pub front : replies ≡ take (length replies) (replies_to h rs)
    pub leaves : Leaves newest (state_of it) (IsAfterOrNext h rs (length replies))
    pub kind : (fault ≡ Store) ⊎ (fault ≡ NoMemory)

  -- how a run over these requests ends
  abbrev pub EndsRun : Registry S g → History → List Request → List Reply → Option Fault → Type 0
  EndsRun it h rs replies None = IsDone it h rs replies
  EndsRun it h rs replies (Some fault) = IsStopped it h rs replies fault
