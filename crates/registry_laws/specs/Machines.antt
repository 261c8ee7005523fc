-- Registries on several machines that share a log of lines.
use Rattle.std.specs.Prelude.{◌≡◌, ◌⊎◌, ◌<◌, ℕ, suc, List, All, length, slice_get, Some}
use Rattle.usbnum_core.specs.declared.number.Number.{Number}
use Rattle.registry_rules.specs.Accepted.{accepted_of, accepted_by}
use Rattle.registry_rules.specs.History.{History, with_deed}
use Rattle.registry_rules.specs.Query.{owner_of}
use Rattle.registry_rules.specs.Run.{Legal, after}
use Rattle.registry_rules.specs.declared.accepted.Accepted.{Accepted}
use Rattle.registry_rules.specs.declared.deed.Deed.{Deed}
use Rattle.registry_rules.specs.declared.order.Request.{Request}
use Rattle.registry_wire.specs.Record.{accepted_line}
use Rattle.registry_laws.specs.Records.{IsAccepted, IsValidFounding, record_of}
use Rattle.shared_log.specs.Calls.{LogLines, Grows, AppendMeans}
use Rattle.shared_log.specs.declared.answers.AppendAnswer.TheVariants.{Appended}

-- the fields of the founding and of each accepted request are valid, as the Rust types guarantee of each
pub record HasValidFields (h : History) : Type 0 where
  pub founding : IsValidFounding h.founding
  pub accepted : All IsAccepted (accepted_of h.deeds)

-- the log begins with the record of the history: what a machine that shares it must have acted on, and no more
abbrev pub BeginsWith : LogLines → History → Type 0
BeginsWith log h = Grows (record_of h) log

-- a legal history of a machine that shares the log
pub record IsOfMachine (log : LogLines) (h : History) : Type 0 where
  pub legal : Legal h
  pub valid : HasValidFields h
  pub begins : BeginsWith log h

-- some requests lead from the first history to the second
abbrev pub LeadsToLater : History → History → Type 0
LeadsToLater h x = (requests : List Request) × (x ≡ after h requests)

-- of two machines that share a log one has the history of the other, or goes on from it
abbrev pub HaveOneHistory : Type 0
HaveOneHistory = (log : LogLines) (a b : History) → IsOfMachine log a → IsOfMachine log b → LeadsToLater a b ⊎ LeadsToLater b a

-- a number that has an owner on two machines that share a log has the same one on both
abbrev pub HaveOneOwner : Type 0
HaveOneOwner = (log : LogLines) (a b : History) → IsOfMachine log a → IsOfMachine log b →
    (n : Number) (org other : List ℕ) → owner_of a n ≡ Some org → owner_of b n ≡ Some other → org ≡ other

-- an accepted request whose line is in the log is in the history of each machine that has as many lines, under the same number
abbrev pub HaveEachRequest : Type 0
HaveEachRequest = (log : LogLines) (h : History) → IsOfMachine log h → (accepted : Accepted) → IsAccepted accepted →
    (n : ℕ) → n < length (record_of h) → slice_get log n ≡ Some (accepted_line accepted) → (k : ℕ) × (n ≡ suc k) × (slice_get (accepted_of h.deeds) k ≡ Some accepted)

-- If the log takes the line of a machine's next deed under the next number, it begins with the history with that deed from then on.
abbrev pub BeginsWithAppended : Type 0
BeginsWithAppended = (old new : LogLines) (h : History) (deed : Deed) → BeginsWith old h →
    AppendMeans (length (record_of h)) (accepted_line (accepted_by deed)) Appended old new → BeginsWith new (with_deed h deed)
