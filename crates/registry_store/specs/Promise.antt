-- What a registry promises about its store.
use Rattle.std.specs.Prelude.{◌≡◌, ◌≤◌, ◌⊎◌, ◌||◌, ℕ, Bool, false, IsTrue, Option, is_some}
use Rattle.sqlite.specs.Tree.{Trees}
use Rattle.sqlite.specs.View.{doubt}
use Rattle.sqlite.specs.Disk.{MoreFaults}
use Rattle.sqlite.specs.Store.{Ghosts}
use Rattle.sqlite.specs.State.{State, HasCleanDisk}
use Rattle.sqlite.specs.Held.{Held, state}
use Rattle.registry_tables.specs.declared.opening.Summary.{Summary}
use Rattle.registry_tables.specs.Head.{IsHead}
use Rattle.registry_rules.specs.History.{History}
use Rattle.registry_rules.specs.Run.{Legal}
use Rattle.registry_rules.specs.TotalsOf.{AreTotalsOf}
use Rattle.registry_tables.specs.Rows.{Rows, newest}
use Rattle.registry_store.specs.declared.fault.Fault.{Fault}
use Rattle.registry_store.specs.declared.registry.Registry.{Registry}
use Rattle.registry_store.specs.Faults.{is_foreign_fault}

-- each database that a crash may now leave holds the rows of one of these histories, in this schema
abbrev pub Leaves : ℕ → State → (History → Type 0) → Type 0
Leaves v s These = (db : Trees) → s.may_leave db → (h : History) × These h × Rows v db h

-- the same in this schema or a later one
abbrev pub LeavesFrom : ℕ → State → (History → Type 0) → Type 0
LeavesFrom from s These = (db : Trees) → s.may_leave db → (h : History) × These h × (v : ℕ) × (from ≤ v) × Rows v db h

-- each database that a crash may now leave holds the rows of this history, in this schema or a later one
abbrev pub LeavesLater : ℕ → State → History → Type 0
LeavesLater v s h = (db : Trees) → s.may_leave db → (later : ℕ) × (v ≤ later) × Rows later db h

-- Over a clean disk: while the connection is open it shows the rows of the history, and a crash leaves only those.
pub record IsAt (v : ℕ) (s : State) (h : History) : Type 0 where
  pub shown : HasCleanDisk s → IsTrue s.is_open → (s.now ≡ s.committed) × Rows v s.committed.trees h
  pub left : HasCleanDisk s → Leaves v s (λ x. x ≡ h)

-- Over a clean disk: the connection is open, and shows the committed rows of the history. Unlike `IsAt` this says nothing about a
-- crash; a connection that was just opened has it.
abbrev pub IsFreshAt : ℕ → State → History → Type 0
IsFreshAt v s h = HasCleanDisk s → IsTrue s.is_open × (s.now ≡ s.committed) × Rows v s.committed.trees h

-- the history is legal, and these are its totals and its head
pub record IsLegalWith (summary : Summary) (h : History) : Type 0 where
  pub legal : Legal h
  pub totals_are : AreTotalsOf h summary.totals
  pub head_is : IsHead h summary.head

-- This holds of every call, whatever it commits: an unclean disk stays unclean; if each read was tested against a digest, it
-- still is (`IsShielded`); the count of failed calls of the disk never falls; the limit on the steps of a query stays; and over
-- a clean disk the connection shuts only if such a call fails.
pub record Endures (old new : State) : Type 0 where
  pub clean : doubt old.is_clean ≤ doubt new.is_clean
  pub shield : old.IsShielded → new.IsShielded
  pub faults_grow : old.faults ≤ new.faults
  pub limit : new.step_limit ≡ old.step_limit
  pub closes : HasCleanDisk new → IsTrue old.is_open → IsTrue new.is_open ⊎ MoreFaults old.faults new.faults

module _ {S : Type 0} {g : Ghosts S} where
  abbrev pub connection_of : Registry S g → Held S
  connection_of it = it.conn

  -- what the connection of a registry shows
  abbrev pub state_of : Registry S g → State
  state_of it = state g it.conn

  -- the fault of an earlier `act`, if one had a fault
  abbrev pub poisoned_by : Registry S g → Option Fault
  poisoned_by it = it.fault

  -- an earlier `act` had a fault
  abbrev pub is_poisoned : Registry S g → Bool
  is_poisoned it = is_some (poisoned_by it)

  -- an `act` or a query found that the tables hold the rows of no history
  abbrev pub has_met_foreign : Registry S g → Bool
  has_met_foreign it = is_foreign_fault (poisoned_by it) || it.foreign

  -- A call with this fault, or without one, leaves a note of it: the call found that the tables hold the rows of no history, or
  -- an earlier one did. So a caller that hides this fault is found out, whatever the store holds.
  abbrev pub NotesForeign : Registry S g → Registry S g → Option Fault → Type 0
  NotesForeign it new fault = has_met_foreign new ≡ (is_foreign_fault fault || has_met_foreign it)

  -- a registry that was just founded or opened: it is not poisoned, and has not met the rows of no history
  pub record IsNew (it : Registry S g) : Type 0 where
    pub sound : is_poisoned it ≡ false
    pub unmet : has_met_foreign it ≡ false

  -- a registry represents a legal history: it is not poisoned, its totals and its head are those of the history, and over a clean disk so
  -- are its tables and what a crash may leave
  pub record Represents (it : Registry S g) (h : History) : Type 0 where
    pub not_poisoned : is_poisoned it ≡ false
    pub legal_with : IsLegalWith it.summary h
    pub at : IsAt newest (state_of it) h
