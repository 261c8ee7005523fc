-- The calls that are made of a log.
use Rattle.std.specs.Prelude.{◌≡◌, ◌⊎◌, ◌+◌, ℕ, List, [], ◌∷◌, length, slice_get, Some, Result, Ok, Err}
use Rattle.registry_rules.specs.History.{History}
use Rattle.registry_rules.specs.Reply.{act_text}
use Rattle.registry_rules.specs.Verdict.{verdict}
use Rattle.registry_rules.specs.declared.deed.Deed.{Deed}
use Rattle.registry_rules.specs.declared.order.Request.{Request}
use Rattle.registry_rules.specs.declared.verdict.Verdict.TheVariants.{New}
use Rattle.registry_wire.specs.Record.{accepted_line}
use Rattle.registry_laws.specs.Machines.{IsOfMachine, LeadsToLater}
use Rattle.registry_laws.specs.Records.{record_of}
use Rattle.shared_log.specs.Calls.{LogLines}
use Rattle.shared_log.specs.declared.answers.AppendAnswer.{AppendAnswer}
use Rattle.shared_log.specs.declared.answers.PageAnswer.{PageAnswer}
use Rattle.shared_log.specs.declared.log.Log.{Ghosts}
use Rattle.shared_registry.specs.declared.cursor.Cursor.{Cursor}
use Rattle.shared_registry.specs.declared.stop.ShareStop.{ShareStop}
use Rattle.shared_registry.specs.Cursors.{accepted_as}

-- no line is appended
abbrev pub AppendsNothing : ℕ → List ℕ → Type 0
AppendsNothing n line = ⊥

-- Only the line of this request is, behind the record of a history that this one leads to and whose record begins the log. The request
-- is new to that history, and the line has the reply to it.
pub record AppendsRequest (log : LogLines) (h : History) (r : Request) (n : ℕ) (line : List ℕ) : Type 0 where
  pub before : History
  pub leads : LeadsToLater h before
  pub there : IsOfMachine log before
  pub deed : Deed
  pub new : verdict before r ≡ New deed
  pub number : n ≡ length (record_of before)
  pub written : line ≡ accepted_line (accepted_as r (act_text deed.act))

-- only these lines are, from this number on
abbrev pub AppendsLines : LogLines → ℕ → ℕ → List ℕ → Type 0
AppendsLines these start n line = (i : ℕ) × (n ≡ start + i) × (slice_get these i ≡ Some line)

-- only lines of the record are, each under its number
abbrev pub AppendsRecord : History → ℕ → List ℕ → Type 0
AppendsRecord h n line = slice_get (record_of h) n ≡ Some line

module _ {L : Type 0} (l : Ghosts L) (Appends : ℕ → List ℕ → Type 0) where
  -- One call: a read, an append of such a line, or a call without an answer.
  abbrev pub IsCall : L → L → Type 0
  IsCall old new =
      ((n : ℕ) × (page : PageAnswer) × l.reads old new n page)
      ⊎ (((n : ℕ) × (line : List ℕ) × (answer : AppendAnswer) × Appends n line × l.appends old new n line answer)
      ⊎ l.fails old new)

  -- calls one after another, with the states between them
  abbrev pub AreCalls : L → List L → L → Type 0
  AreCalls old [] new = new ≡ old
  AreCalls old (middle ∷ states) new = IsCall old middle × AreCalls middle states new

  -- The log was asked by such calls alone. Since a call that is made may be answered, no other line is to be appended.
  abbrev pub IsLogAsked : L → L → Type 0
  IsLogAsked old new = (states : List L) × AreCalls old states new

  -- the same of a call that gives the log back
  abbrev pub IsAskedFor : L → Result (Cursor L) (ShareStop × L) → Type 0
  IsAskedFor old (Ok cursor) = IsLogAsked old cursor.log
  IsAskedFor old (Err left) = IsLogAsked old left.1
