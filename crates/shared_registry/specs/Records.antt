-- The record of a registry, compared with a log or put into it.
use Rattle.std.specs.Prelude.{◌≡◌, ◌≢◌, ◌⊎◌, ◌≤◌, ◌<◌, ◌+◌, ⊤, ℕ, Bool, true, false, List, [], ◌++◌, length, take, drop, slice_get, Some, Result, Ok, Err}
use Rattle.registry_rules.specs.History.{History}
use Rattle.registry_laws.specs.Records.{record_of}
use Rattle.registry_store.specs.declared.fault.Fault.TheVariants as faults
use Rattle.shared_log.specs.Calls.{LogLines, AtSomeInstant, Grows}
use Rattle.shared_log.specs.declared.fault.LogFault.TheVariants.{BadAnswer}
use Rattle.shared_log.specs.declared.log.Log.{Ghosts as LogGhosts}
use Rattle.shared_registry.specs.declared.cursor.Cursor.{Cursor}
use Rattle.shared_registry.specs.declared.stop.ShareStop.{ShareStop}
use Rattle.shared_registry.specs.declared.stop.ShareStop.TheVariants as stops
use Rattle.shared_registry.specs.Cursors.{most_lines}
use Rattle.shared_registry.specs.Follows.{HasFailed}

-- the next lines of a record, from line n on: at least one, unless there is none
pub record IsNextPart (record_lines : LogLines) (n : ℕ) (part : LogLines) : Type 0 where
  pub rest : LogLines
  pub next : drop n record_lines ≡ part ++ rest
  pub none : part ≡ [] → rest ≡ []

-- why lines of the record were not read
abbrev pub IsStopOfReading : ShareStop → Type 0
IsStopOfReading (stops.Registry fault) = (fault ≡ faults.Store) ⊎ (fault ≡ faults.NoMemory)
IsStopOfReading stops.NoMemory = ⊤
IsStopOfReading (stops.Log fault) = ⊥
IsStopOfReading (stops.OtherRecord n) = ⊥
IsStopOfReading stops.Ahead = ⊥
IsStopOfReading stops.Empty = ⊥
IsStopOfReading stops.Full = ⊥

-- the first lines of both lists are the same, this many, and these are all of ours, or the next one is another or is not there
pub record Matches (ours theirs : LogLines) (count : ℕ) : Type 0 where
  pub within : count ≤ length ours
  pub there : count ≤ length theirs
  pub same : take count ours ≡ take count theirs
  pub ends : (length ours ≡ count) ⊎ (slice_get ours count ≢ slice_get theirs count)

-- the log begins with the first lines of the record, as many as the cursor has passed
pub record HasPassed {L : Type 0} (lines : L → LogLines) (c : Cursor L) (h : History) : Type 0 where
  pub within : c.next ≤ length (record_of h)
  pub begins : Grows (take c.next (record_of h)) (lines c.log)

-- the log had another line under this number than the record, and the same lines before it
pub record IsApart (old new : LogLines) (h : History) (n : ℕ) : Type 0 where
  pub same : Grows (take n (record_of h)) new
  pub line : List ℕ
  pub there : AtSomeInstant old new (λ log. slice_get log n ≡ Some line)
  pub other : slice_get (record_of h) n ≢ Some line

module _ {L : Type 0} (l : LogGhosts L) (lines : L → LogLines) (h : History) where
  -- why the whole record was not compared with the log, or not put into it
  abbrev pub IsUnshared : L → L → ShareStop → Type 0
  IsUnshared start now (stops.Registry fault) = (fault ≡ faults.Store) ⊎ (fault ≡ faults.NoMemory)
  IsUnshared start now (stops.Log fault) = HasFailed l lines start now fault
  IsUnshared start now (stops.OtherRecord n) = IsApart (lines start) (lines now) h n
  IsUnshared start now stops.Ahead = AtSomeInstant (lines start) (lines now) (λ log. length log < length (record_of h))
  IsUnshared start now stops.Empty = ⊥
  IsUnshared start now stops.Full = most_lines < length (record_of h)
  IsUnshared start now stops.NoMemory = Grows (lines start) (lines now)

-- why a page of a log is not the part of the record that is to be there
abbrev pub IsOtherPage : LogLines → LogLines → Bool → ℕ → ShareStop → Type 0
IsOtherPage ours theirs more next (stops.Registry fault) = ⊥
IsOtherPage ours theirs more next (stops.Log fault) = (theirs ≡ []) × (more ≡ true) × (fault ≡ BadAnswer)
IsOtherPage ours theirs more next (stops.OtherRecord n) = (count : ℕ) × (n ≡ next + count) × (count < length ours) × (count < length theirs) × (take count ours ≡ take count theirs) × (slice_get ours count ≢ slice_get theirs count)
IsOtherPage ours theirs more next stops.Ahead = (theirs ≡ []) × (more ≡ false)
IsOtherPage ours theirs more next stops.Empty = ⊥
IsOtherPage ours theirs more next stops.Full = most_lines < next + length ours
IsOtherPage ours theirs more next stops.NoMemory = ⊥

-- what stopped a call that gives the log back
abbrev pub stop_in : {A L : Type 0} → Result A (ShareStop × L) → Result A ShareStop
stop_in (Ok it) = Ok it
stop_in (Err left) = Err left.0
