-- What a reader returns for a text.
use Rattle.std.specs.Prelude.{◌⊎◌, ◌≡◌, ℕ, List, length, ◌<◌, Option, Some, None, Result, Ok, Err}
use Rattle.usbids_text.specs.declared.fault.ReadFault.{ReadFault}
use Rattle.usbids_text.specs.declared.fault.ReadFault.TheVariants.{Line, NoMemory}
use Rattle.usbids_text.specs.declared.line.Why.{Why}
use Rattle.usbids_text.specs.Entries.{TopEntry}
use Rattle.usbids_text.specs.Cut.{cut}
use Rattle.usbids_text.specs.Documents.{IsTextOf, FaultAt}

-- for a whole text: its document, its first fault, or out of memory
abbrev pub ReadsAs : List ℕ → Result (List TopEntry) ReadFault → Type 0
ReadsAs text (Ok doc) = IsTextOf text doc
ReadsAs text (Err NoMemory) = Unit {0}
ReadsAs text (Err (Line f)) = FaultAt text f.line f.why

-- the fault as an error, if there is one
abbrev pub answer_of : Option ReadFault → Result (Unit {0}) ReadFault
answer_of None = Ok tt
answer_of (Some f) = Err f

-- the first faulty line has its line feed, or is too long without it
abbrev pub SeenFault : List ℕ → ℕ → Why → Type 0
SeenFault text n why = (f : FaultAt text n why) × ((length f.before < length (cut text).0) ⊎ (65536 < length f.line))

-- for a text that may continue: a fault that the reader sees already, out of memory, or no fault
abbrev pub AnswersSoFar : List ℕ → Option ReadFault → Type 0
AnswersSoFar text (Some (Line f)) = SeenFault text f.line f.why
AnswersSoFar text (Some NoMemory) = Unit {0}
AnswersSoFar text None = Unit {0}

-- out of memory, or this fault
abbrev pub HasFault : Option ReadFault → ℕ → Why → Type 0
HasFault fault n why = (fault ≡ Some NoMemory) ⊎ (fault ≡ Some (Line (record { line = n; why = why })))
