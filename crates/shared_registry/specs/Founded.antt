-- The founding of the registry whose record is a log.
use Rattle.std.specs.Prelude.{◌≡◌, ◌≢◌, ⊤, ℕ, Bool, true, false, List, [], slice_get, Some}
use Rattle.registry_rules.specs.declared.founding.Founding.{Founding}
use Rattle.registry_wire.specs.Record.{founding_line}
use Rattle.registry_laws.specs.Records.{IsValidFounding}
use Rattle.shared_log.specs.Calls.{LogLines, AtSomeInstant, Grows}
use Rattle.shared_log.specs.declared.fault.LogFault.TheVariants.{BadAnswer}
use Rattle.shared_log.specs.declared.log.Log.{Ghosts as LogGhosts}
use Rattle.shared_registry.specs.declared.stop.ShareStop.{ShareStop}
use Rattle.shared_registry.specs.declared.stop.ShareStop.TheVariants as stops
use Rattle.shared_registry.specs.Follows.{HasFailed}

-- the first of the lines is that of this founding
abbrev pub BeginsWithFounding : Founding → LogLines → Type 0
BeginsWithFounding founding lines = slice_get lines 0 ≡ Some (founding_line founding)

-- the line is that of no founding
abbrev pub IsOfNoFounding : List ℕ → Type 0
IsOfNoFounding line = (founding : Founding) → IsValidFounding founding → founding_line founding ≢ line

-- there is a first line, and it is that of no founding
abbrev pub BeginsOtherwise : List ℕ → LogLines → Type 0
BeginsOtherwise line lines = (slice_get lines 0 ≡ Some line) × IsOfNoFounding line

-- why the page of a log from its first line on begins with no founding
abbrev pub HasNoFoundingLine : LogLines → Bool → ShareStop → Type 0
HasNoFoundingLine page more (stops.Log fault) = (page ≡ []) × (more ≡ true) × (fault ≡ BadAnswer)
HasNoFoundingLine page more (stops.OtherRecord n) = (n ≡ 0) × (line : List ℕ) × BeginsOtherwise line page
HasNoFoundingLine page more stops.Empty = (page ≡ []) × (more ≡ false)
HasNoFoundingLine page more stops.NoMemory = ⊤
HasNoFoundingLine page more (stops.Registry fault) = ⊥
HasNoFoundingLine page more stops.Ahead = ⊥
HasNoFoundingLine page more stops.Full = ⊥

module _ {L : Type 0} (l : LogGhosts L) (lines : L → LogLines) where
  -- why no founding was read from a log: a call got no answer, its first line is another one, or it had none
  abbrev pub HasNoFounding : L → L → ShareStop → Type 0
  HasNoFounding old new (stops.Log fault) = HasFailed l lines old new fault
  HasNoFounding old new (stops.OtherRecord n) = (n ≡ 0) × (line : List ℕ) × AtSomeInstant (lines old) (lines new) (BeginsOtherwise line)
  HasNoFounding old new stops.Empty = AtSomeInstant (lines old) (lines new) (λ log. log ≡ [])
  HasNoFounding old new stops.NoMemory = Grows (lines old) (lines new)
  HasNoFounding old new (stops.Registry fault) = ⊥
  HasNoFounding old new stops.Ahead = ⊥
  HasNoFounding old new stops.Full = ⊥
