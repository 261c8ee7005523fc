-- A registry that follows a log of lines, which other machines may append to.
--
-- `lines` is what the log keeps; that it keeps them is the premise `KeepsLines` of each clause.
use Rattle.std.specs.Prelude.{◌≡◌, ◌≢◌, ◌⊎◌, ◌<◌, ℕ, true, false, List, [], length, slice_get, Option, Some, None, Bool}
use Rattle.sqlite.specs.Store.{Ghosts}
use Rattle.sqlite.specs.State.{State}
use Rattle.registry_rules.specs.History.{History}
use Rattle.registry_rules.specs.Run.{after_one, reply_to}
use Rattle.registry_rules.specs.declared.order.Request.{Request}
use Rattle.registry_rules.specs.declared.verdict.Reply.{Reply}
use Rattle.registry_laws.specs.Machines.{IsOfMachine, LeadsToLater}
use Rattle.registry_laws.specs.Records.{record_of}
use Rattle.registry_tables.specs.Rows.{newest}
use Rattle.registry_store.specs.Files.{IsEither}
use Rattle.registry_store.specs.Promise.{Leaves, Represents, poisoned_by, state_of}
use Rattle.registry_store.specs.declared.registry.Registry.{Registry}
use Rattle.shared_log.specs.Calls.{LogLines, AtSomeInstant, Grows}
use Rattle.shared_log.specs.declared.answers.PageAnswer.{PageAnswer}
use Rattle.shared_log.specs.declared.fault.LogFault.{LogFault}
use Rattle.shared_log.specs.declared.fault.LogFault.TheVariants.{BadAnswer}
use Rattle.shared_log.specs.declared.log.Log.{Ghosts as LogGhosts}
use Rattle.shared_registry.specs.declared.cursor.Cursor.{Cursor}
use Rattle.shared_registry.specs.declared.stop.ShareStop.{ShareStop}
use Rattle.shared_registry.specs.declared.stop.ShareStop.TheVariants as stops
use Rattle.shared_registry.specs.Cursors.{most_lines}
use Rattle.shared_registry.specs.Lines.{Continues}

-- the log was the record of the history, and no more, at some instant between two states
abbrev pub WasWhole : LogLines → LogLines → History → Type 0
WasWhole old new h = AtSomeInstant old new (λ log. log ≡ record_of h)

-- the log had under this number a line with which the record of the history does not go on
pub record HasOther (old new : LogLines) (h : History) (n : ℕ) : Type 0 where
  pub line : List ℕ
  pub there : AtSomeInstant old new (λ log. slice_get log n ≡ Some line)
  pub other : (x : History) → ¬ Continues h line x

-- the second history is the first, or has one request more, whose line goes on with the record
abbrev pub GoesOnByOne : History → History → Type 0
GoesOnByOne x y = (y ≡ x) ⊎ ((line : List ℕ) × Continues x line y)

-- A crash leaves one of two histories, of which the second has at most one request more. This history leads to them, and the record of
-- each begins the log.
pub record LeavesOfMachine (s : State) (log : LogLines) (h : History) : Type 0 where
  pub last : History
  pub next : History
  pub leads : LeadsToLater h last
  pub goes_on : GoesOnByOne last next
  pub last_of : IsOfMachine log last
  pub next_of : IsOfMachine log next
  pub leaves : Leaves newest s (IsEither last next)

module _ {L : Type 0} (l : LogGhosts L) (lines : L → LogLines) where
  -- The last call of the log got no answer; or the answer to a read had no line, and said that there were more.
  pub record HasFailed (start now : L) (fault : LogFault) : Type 0 where
    pub old : L
    pub grown : Grows (lines start) (lines old)
    pub failed : l.fails old now ⊎ ((n : ℕ) × (page : PageAnswer) × l.reads old now n page × (page.lines ≡ []) × (page.more ≡ true) × (fault ≡ BadAnswer))

module _ {S : Type 0} {g : Ghosts S} {L : Type 0} (l : LogGhosts L) (lines : L → LogLines) where
  -- The registry represents this history, whose record begins the log. The next line of the log is the one behind that record.
  pub record Follows (it : Registry S g) (c : Cursor L) (h : History) : Type 0 where
    pub represents : Represents it h
    pub of_machine : IsOfMachine (lines c.log) h
    pub next : c.next ≡ length (record_of h)

  -- the same of that history or one to which it leads
  abbrev pub FollowsLater : Registry S g → Cursor L → History → Type 0
  FollowsLater it c h = (x : History) × LeadsToLater h x × Follows it c x

  module _ (c : Cursor L) (it_new : Registry S g) (c_new : Cursor L) (h : History) where
    -- What stopped a call, and what is left. Whatever it is, each history that a crash may leave begins the log.
    abbrev pub IsLeft : ShareStop → Type 0
    IsLeft (stops.Registry fault) = (poisoned_by it_new ≡ Some fault) × LeavesOfMachine (state_of it_new) (lines c_new.log) h
    IsLeft (stops.Log fault) = FollowsLater it_new c_new h × HasFailed l lines c.log c_new.log fault
    IsLeft (stops.OtherRecord n) = (x : History) × LeadsToLater h x × Follows it_new c_new x × (n ≡ length (record_of x)) × HasOther (lines c.log) (lines c_new.log) x n
    IsLeft stops.Ahead = ⊥
    IsLeft stops.Empty = ⊥
    IsLeft stops.Full = FollowsLater it_new c_new h × (c_new.next ≡ most_lines)
    IsLeft stops.NoMemory = FollowsLater it_new c_new h

    -- A page of the log was acted on. If there is no more, the log was the record of the history that is now represented.
    pub record HasFollowedPage (more : Bool) : Type 0 where
      pub now : History
      pub leads : LeadsToLater h now
      pub follows : Follows it_new c_new now
      pub grown : Grows (lines c.log) (lines c_new.log)
      pub whole : more ≡ false → WasWhole (lines c.log) (lines c_new.log) now

    -- The whole log was acted on.
    pub record HasFollowed : Type 0 where
      pub now : History
      pub leads : LeadsToLater h now
      pub follows : Follows it_new c_new now
      pub whole : WasWhole (lines c.log) (lines c_new.log) now

    -- A request got the reply of the history. If its line was appended, the history was the whole log then.
    pub record HasActed (r : Request) (reply : Reply) : Type 0 where
      pub follows : Follows it_new c_new (after_one h r)
      pub grown : Grows (lines c.log) (lines c_new.log)
      pub reply_is : reply ≡ reply_to h r
      pub whole : c_new.next ≢ c.next → WasWhole (lines c.log) (lines c_new.log) h

    -- the same, or, without a reply, the log had a line under the next number
    abbrev pub HasTried : Request → Option Reply → Type 0
    HasTried r None = Follows it_new c_new h × Grows (lines c.log) (lines c_new.log) × (length (record_of h) < length (lines c_new.log))
    HasTried r (Some reply) = HasActed r reply

    -- A request got the reply of a history that was the whole log at some instant of the call, and was acted on after it.
    pub record IsAnsweredOverLog (r : Request) (reply : Reply) : Type 0 where
      pub before : History
      pub leads : LeadsToLater h before
      pub whole : WasWhole (lines c.log) (lines c_new.log) before
      pub reply_is : reply ≡ reply_to before r
      pub follows : Follows it_new c_new (after_one before r)

    -- the calls so far: the registry follows a later history
    pub record HasGoneOn : Type 0 where
      pub now : History
      pub leads : LeadsToLater h now
      pub follows : Follows it_new c_new now
      pub grown : Grows (lines c.log) (lines c_new.log)

    -- a request was answered, or, without a reply, lines of the log were acted on
    abbrev pub HasTurned : Request → Option Reply → Type 0
    HasTurned r None = HasGoneOn
    HasTurned r (Some reply) = IsAnsweredOverLog r reply
