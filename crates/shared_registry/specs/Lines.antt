-- The lines of a log with which the record of a history goes on.
use Rattle.std.specs.Prelude.{◌≡◌, ◌≢◌, ◌⊎◌, ◌+◌, ℕ, true, false, List, [], ◌∷◌, ◌++◌, length, Option, Some, None, Result, Ok, Err}
use Rattle.sqlite.specs.Store.{Ghosts}
use Rattle.sqlite.specs.State.{State}
use Rattle.registry_rules.specs.Accepted.{accepted_by}
use Rattle.registry_rules.specs.History.{History, with_deed}
use Rattle.registry_rules.specs.Verdict.{verdict}
use Rattle.registry_rules.specs.declared.deed.Deed.{Deed}
use Rattle.registry_rules.specs.declared.order.Request.{Request}
use Rattle.registry_rules.specs.declared.verdict.Verdict.TheVariants.{New}
use Rattle.registry_wire.specs.Record.{accepted_line}
use Rattle.registry_laws.specs.Machines.{HasValidFields, LeadsToLater}
use Rattle.registry_laws.specs.Records.{IsAccepted, record_of}
use Rattle.registry_tables.specs.Rows.{newest}
use Rattle.registry_store.specs.Files.{IsEither}
use Rattle.registry_store.specs.Promise.{Leaves, Represents, poisoned_by, state_of}
use Rattle.registry_store.specs.declared.fault.Fault.{Fault}
use Rattle.registry_store.specs.declared.registry.Registry.{Registry}
use Rattle.shared_log.specs.Calls.{LogLines}
use Rattle.shared_registry.specs.declared.expecting.Expected.{Expected}
use Rattle.shared_registry.specs.declared.expecting.Unexpected.{Unexpected}
use Rattle.shared_registry.specs.declared.expecting.Unexpected.TheVariants as reasons
use Rattle.shared_registry.specs.declared.stop.ShareStop.{ShareStop}
use Rattle.shared_registry.specs.declared.stop.ShareStop.TheVariants as stops
use Rattle.shared_registry.specs.Cursors.{accepted_as, most_lines}

-- The request is new to the history, this is its line with its reply, and it leads to that history.
pub record ContinuesBy (h : History) (r : Request) (line : List ℕ) (x : History) : Type 0 where
  pub deed : Deed
  pub new : verdict h r ≡ New deed
  pub valid : IsAccepted (accepted_by deed)
  pub written : line ≡ accepted_line (accepted_by deed)
  pub is : x ≡ with_deed h deed

-- the line is that of a request that is new to the history, and leads to that history
abbrev pub Continues : History → List ℕ → History → Type 0
Continues h line x = (r : Request) × ContinuesBy h r line x

-- A crash leaves this history, or the next one, to which the line leads if it is another.
pub record MayHaveGoneOn (s : State) (h : History) (line : List ℕ) : Type 0 where
  pub next : History
  pub goes_on : (next ≡ h) ⊎ Continues h line next
  pub leaves : Leaves newest s (IsEither h next)

-- The record of the second history is that of the first with these lines. Some requests lead from one to the other; if all fields
-- of the first are valid, so are those of the second.
pub record GoesOver (h : History) (lines : LogLines) (x : History) : Type 0 where
  pub written : record_of x ≡ record_of h ++ lines
  pub leads : LeadsToLater h x
  pub valid : HasValidFields h → HasValidFields x

-- the line of a request is the expected one
pub record IsExpected (old new : Expected) (r : Request) (text : List ℕ) : Type 0 where
  pub valid : IsAccepted (accepted_as r text)
  pub same : accepted_line (accepted_as r text) ≡ old.line.now
  pub told : new ≡ record old { is_it = Some true }

-- why it is not
abbrev pub IsUnexpected : Expected → Expected → Request → List ℕ → Unexpected → Type 0
IsUnexpected old new r text reasons.Other = (accepted_line (accepted_as r text) ≢ old.line.now) × (new ≡ record old { is_it = Some false })
IsUnexpected old new r text reasons.NoMemory = new ≡ old

-- what that stops at line n
abbrev pub stop_for : Unexpected → ℕ → ShareStop
stop_for reasons.Other n = stops.OtherRecord n
stop_for reasons.NoMemory n = stops.NoMemory

-- the fault of a registry that this is, if it is one
abbrev pub fault_of_stop : ShareStop → Option Fault
fault_of_stop (stops.Registry fault) = Some fault
fault_of_stop (stops.Log fault) = None
fault_of_stop (stops.OtherRecord n) = None
fault_of_stop stops.Ahead = None
fault_of_stop stops.Empty = None
fault_of_stop stops.Full = None
fault_of_stop stops.NoMemory = None

-- the fault of a registry that stopped a call, if one did
abbrev pub fault_in_call : {A : Type 0} → Result A ShareStop → Option Fault
fault_in_call (Ok it) = None
fault_in_call (Err stop) = fault_of_stop stop

module _ {S : Type 0} {g : Ghosts S} (new : Registry S g) where
  -- the registry represents the history to which the line leads
  abbrev pub LeadsToLine : History → List ℕ → Type 0
  LeadsToLine h line = (x : History) × Continues h line x × Represents new x

  -- What stopped the call at line n, and what is left: the history, or after a fault of the registry maybe the one to which the line leads.
  -- The line is refused only if it leads to no history so.
  abbrev pub IsStoppedAtLine : History → List ℕ → (History → Type 0) → ℕ → ShareStop → Type 0
  IsStoppedAtLine h line LeadsSo n (stops.Registry fault) = (poisoned_by new ≡ Some fault) × MayHaveGoneOn (state_of new) h line
  IsStoppedAtLine h line LeadsSo n (stops.OtherRecord at) = (at ≡ n) × Represents new h × ((x : History) → ¬ LeadsSo x)
  IsStoppedAtLine h line LeadsSo n stops.NoMemory = Represents new h
  IsStoppedAtLine h line LeadsSo n (stops.Log fault) = ⊥
  IsStoppedAtLine h line LeadsSo n stops.Ahead = ⊥
  IsStoppedAtLine h line LeadsSo n stops.Empty = ⊥
  IsStoppedAtLine h line LeadsSo n stops.Full = ⊥

  -- the lines were acted on
  abbrev pub LeadsToLines : History → LogLines → Type 0
  LeadsToLines h lines = (x : History) × GoesOver h lines x × Represents new x

  -- what stopped the calls before the rest of the lines, the first of which is line n
  abbrev pub IsStoppedBefore : History → LogLines → ℕ → ShareStop → Type 0
  IsStoppedBefore h [] n stop = ⊥
  IsStoppedBefore h (line ∷ others) n stops.Full = Represents new h × (n ≡ most_lines)
  IsStoppedBefore h (line ∷ others) n (stops.Registry fault) = IsStoppedAtLine h line (Continues h line) n (stops.Registry fault)
  IsStoppedBefore h (line ∷ others) n (stops.OtherRecord at) = IsStoppedAtLine h line (Continues h line) n (stops.OtherRecord at)
  IsStoppedBefore h (line ∷ others) n stops.NoMemory = IsStoppedAtLine h line (Continues h line) n stops.NoMemory
  IsStoppedBefore h (line ∷ others) n (stops.Log fault) = ⊥
  IsStoppedBefore h (line ∷ others) n stops.Ahead = ⊥
  IsStoppedBefore h (line ∷ others) n stops.Empty = ⊥

  -- the first of the lines were acted on, and then this stopped it
  pub record IsStoppedIn (h : History) (lines : LogLines) (n now : ℕ) (stop : ShareStop) : Type 0 where
    pub front : LogLines
    pub rest : LogLines
    pub split : lines ≡ front ++ rest
    pub last : History
    pub over : GoesOver h front last
    pub counted : now ≡ n + length front
    pub stopped : IsStoppedBefore last rest now stop
