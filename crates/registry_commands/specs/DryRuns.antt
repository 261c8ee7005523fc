-- What is written after the dry run of an import: the reply that the import would get. Nothing is imported.
use Rattle.std.specs.Prelude.{◌≡◌, ◌⊎◌, ◌≤◌, ℕ, Bool, true, false, List, length, codes, None, Result, Ok, Err, if◌then◌else◌, nat_eq}
use Rattle.std.specs.List.{starts_with}
use Rattle.sqlite.specs.Store.{Ghosts}
use Rattle.usbids_text.specs.declared.fault.ReadFault.{ReadFault}
use Rattle.byte_streams.specs.Streams.{most_bytes}
use Rattle.usbids_text.specs.Entries.{TopEntry}
use Rattle.usbids_text.specs.Reading.{ReadsAs}
use Rattle.registry_rules.specs.declared.order.Request.{Request}
use Rattle.registry_rules.specs.declared.verdict.Reply.{Reply}
use Rattle.registry_rules.specs.declared.verdict.Reply.TheVariants.{Done, Refused}
use Rattle.registry_rules.specs.History.{History}
use Rattle.registry_rules.specs.Run.{reply_to}
use Rattle.registry_store.specs.Promise.{NotesForeign, Represents, is_poisoned}
use Rattle.registry_store.specs.Queries.{IsUntouched}
use Rattle.registry_commands.specs.declared.importing.Import.{Import}
use Rattle.registry_commands.specs.declared.messages.Failure.{Failure}
use Rattle.registry_commands.specs.declared.messages.Failure.TheVariants.{File, Memory}
use Rattle.registry_commands.specs.declared.status.ExitStatus.{ExitStatus}
use Rattle.registry_commands.specs.declared.status.ExitStatus.TheVariants.{Failed, Rejected}
use Rattle.registry_commands.specs.Ends.{Effect, Ends, Output, Receives, ReceivesNothing, ReceivesPrefix}
use Rattle.registry_commands.specs.Failures.{IsOfMemory, IsOfOutput, Prints, PrintsFailure, PrintsNothing}
use Rattle.registry_commands.specs.Imports.{IsNotMade, exit_status_of, request_of_import}
use Rattle.registry_commands.specs.LookUp.{IsListRefused}
use Rattle.registry_commands.specs.Messages.{reply_line}
use Rattle.registry_commands.specs.Printed.{IsUnprinted}
use Rattle.registry_commands.specs.Shown.{HoldsOfHistory, IsOfReading, ShowsNothing}

-- ---- the reply

-- the reply to an import of which no number was free
unfoldable pub imports_nothing : Reply → Bool
imports_nothing (Done text) = starts_with nat_eq text (codes "imported fresh 0,")
imports_nothing (Refused refusal) = false

-- the exit status of a dry run: that of the import, but Rejected if it would import nothing
abbrev pub dry_status_of : Reply → ExitStatus
dry_status_of reply = if imports_nothing reply then Rejected else exit_status_of reply

-- the message if an import would import nothing
abbrev pub no_fresh_text : List ℕ
no_fresh_text = codes "no fresh number\n"

-- the error output says that an import would import nothing, if it would not
abbrev pub TellsNothing : Bool → Output → Type 0
TellsNothing true errors = Prints errors no_fresh_text
TellsNothing false errors = PrintsNothing errors

-- the reply's line is written, and the status says whether anything would be imported; or a prefix is written, after a failure,
-- and nothing if memory ran out
abbrev pub IsForetold : Reply → Ends → Type 0
IsForetold reply ends =
    ((ends.status ≡ dry_status_of reply) × Receives ends.out (reply_line reply) × TellsNothing (imports_nothing reply) ends.errors)
    ⊎ ((ends.status ≡ Failed) × ReceivesPrefix ends.out (reply_line reply)
    × PrintsFailure (λ failure. ((failure ≡ Memory) ⊎ (failure ≡ File)) × IsOfOutput ends.out.old.failures ends.out.new.failures failure
    × (failure ≡ Memory → ends.out.new.contents ≡ ends.out.old.contents)) ends.errors)

-- ---- the dry run

module _ {S : Type 0} {g : Ghosts S} where
  -- The reply that the request would get is written, whole or in part; and no call found the rows of no history, if none had
  -- before. Or nothing is written, after a failure. The request is not acted on, and its key is not used.
  pub record IsDryRunOf (did : Effect S g) (r : Request) : Type 0 where
    pub left : IsUntouched did.old did.new
    pub shown : ((reply : Reply) × NotesForeign did.old did.new None × HoldsOfHistory did.old did.new (λ h. reply ≡ reply_to h r) × IsForetold reply did.ends)
        ⊎ IsUnprinted (IsOfReading did.old did.new) did.ends
    pub poisoned : is_poisoned did.old ≡ true → ShowsNothing did

  -- of the request of this list; or the error output says why the bytes are not a list, as of an import
  abbrev pub IsTriedAs : Effect S g → Import → Result (List TopEntry) ReadFault → Type 0
  IsTriedAs did import (Ok doc) =
      ((r : Request) × ((h : History) → Represents did.old h → r ≡ request_of_import import h.founding.vendor doc) × IsDryRunOf did r) ⊎ IsNotMade IsOfMemory did
  IsTriedAs did import (Err fault) = (did.new ≡ did.old) × ReceivesNothing did.ends.out × IsListRefused fault did.ends.errors did.ends.status

  -- of what was read in these bytes; or the input failed or was too long
  abbrev pub IsImportTried : (Failure → Type 0) → Effect S g → Import → List ℕ → Type 0
  IsImportTried OfInput did import bytes =
      ((read : Result (List TopEntry) ReadFault) × (length bytes ≤ most_bytes) × ReadsAs bytes read × IsTriedAs did import read) ⊎ IsNotMade OfInput did
