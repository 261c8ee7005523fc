-- A log that a registry follows: what an append of its next line came to.
use Rattle.std.specs.Prelude.{◌≡◌, ◌≢◌, ◌⊎◌, Bool, true, false, ℕ, suc, List}
use Rattle.shared_log.specs.declared.answers.AppendAnswer.TheVariants as answers
use Rattle.shared_log.specs.declared.log.Log.{Ghosts}
use Rattle.registry_laws.specs.Records.{IsAccepted}
use Rattle.registry_rules.specs.declared.accepted.Accepted.{Accepted}
use Rattle.registry_rules.specs.declared.order.Request.{Request}
use Rattle.registry_wire.specs.Record.{accepted_line}
use Rattle.shared_registry.specs.declared.cursor.Cursor.{Cursor}
use Rattle.shared_registry.specs.declared.cursor.AppendFault.{AppendFault}
use Rattle.shared_registry.specs.declared.cursor.AppendFault.TheVariants as faults

abbrev pub log_of : {L : Type 0} → Cursor L → L
log_of c = c.log

-- the most lines that are counted: 2^32 - 1
abbrev pub most_lines : ℕ
most_lines = 4294967295

-- a request with the text of its reply
abbrev pub accepted_as : Request → List ℕ → Accepted
accepted_as r text = record { request = r; reply = text }

module _ {L : Type 0} (g : Ghosts L) (old new : Cursor L) where
  -- the same place in the log, after a call
  abbrev pub IsSamePlace : Type 0
  IsSamePlace = new ≡ record old { log = new.log }

  -- the log was asked to have the line under the next number: it took it now, or had this very line there
  abbrev pub WasOffered : List ℕ → Bool → Type 0
  WasOffered line true = g.appends old.log new.log old.next line answers.Appended × IsSamePlace
  WasOffered line false = g.appends old.log new.log old.next line (answers.Taken line) × IsSamePlace

  -- the log took the line under the next number, and it is passed
  pub record TookLine (line : List ℕ) : Type 0 where
    pub told : g.appends old.log new.log old.next line answers.Appended
    pub passed : new ≡ record old { log = new.log; next = suc old.next }

  -- the log took the line under the next number, or had this very line under it; the line is passed
  pub record HasLine (line : List ℕ) : Type 0 where
    pub told : g.appends old.log new.log old.next line answers.Appended ⊎ g.appends old.log new.log old.next line (answers.Taken line)
    pub passed : new ≡ record old { log = new.log; next = suc old.next }

  -- why the line is not passed
  abbrev pub HasNoLine : List ℕ → AppendFault → Type 0
  HasNoLine line faults.Taken = ((other : List ℕ) × (other ≢ line) × g.appends old.log new.log old.next line (answers.Taken other)) × IsSamePlace
  HasNoLine line faults.Behind = g.appends old.log new.log old.next line answers.Behind × IsSamePlace
  HasNoLine line faults.Full = (new ≡ old) × (old.next ≡ most_lines)
  HasNoLine line faults.NoMemory = new ≡ old
  HasNoLine line (faults.Log fault) = g.fails old.log new.log × IsSamePlace

  -- why the log did not take it: as above, but the line that is there may be this very one
  abbrev pub HasNoNewLine : List ℕ → AppendFault → Type 0
  HasNoNewLine line faults.Taken = ((other : List ℕ) × g.appends old.log new.log old.next line (answers.Taken other)) × IsSamePlace
  HasNoNewLine line faults.Behind = HasNoLine line faults.Behind
  HasNoNewLine line faults.Full = HasNoLine line faults.Full
  HasNoNewLine line faults.NoMemory = HasNoLine line faults.NoMemory
  HasNoNewLine line (faults.Log fault) = HasNoLine line (faults.Log fault)

  -- the log took the line of a request with its reply
  pub record WasShown (r : Request) (text : List ℕ) : Type 0 where
    pub valid : IsAccepted (accepted_as r text)
    pub line : TookLine (accepted_line (accepted_as r text))

  -- why it did not
  abbrev pub WasNotTaken : Request → List ℕ → AppendFault → Type 0
  WasNotTaken r text fault = HasNoNewLine (accepted_line (accepted_as r text)) fault
