-- What is written, and what the registry represents, after a list was imported.
use Rattle.std.specs.Prelude.{◌≡◌, ◌≢◌, ◌⊎◌, ◌≤◌, ℕ, true, false, ⊤, List, length, Option, Some, None, Result, Ok, Err}
use Rattle.std.specs.Io.KnownBytes.{Keeps}
use Rattle.sqlite.specs.Store.{Ghosts}
use Rattle.sqlite.specs.State.{HasCleanDisk}
use Rattle.usbnum_core.specs.Number.{number_of}
use Rattle.usbnum_core.specs.Text.{IsKey, IsSlug}
use Rattle.usbids_text.specs.declared.fault.ReadFault.{ReadFault}
use Rattle.byte_streams.specs.Streams.{most_bytes}
use Rattle.usbids_text.specs.Entries.{TopEntry}
use Rattle.usbids_text.specs.Reading.{ReadsAs}
use Rattle.registry_rules.specs.declared.order.Request.{Request}
use Rattle.registry_rules.specs.declared.rejection.Rejection.{Rejection}
use Rattle.registry_rules.specs.declared.rejection.Rejection.TheVariants.{Refused as WasRefused, NoMemory as OutOfMemory}
use Rattle.registry_rules.specs.declared.verdict.Reply.{Reply}
use Rattle.registry_rules.specs.declared.verdict.Reply.TheVariants.{Done, Refused}
use Rattle.registry_rules.specs.History.{History}
use Rattle.registry_rules.specs.Run.{after_one, reply_to}
use Rattle.table_laws.specs.Inside.{CommitsNothing}
use Rattle.registry_tables.specs.Rows.{newest}
use Rattle.registry_store.specs.declared.registry.Registry.{Registry}
use Rattle.registry_store.specs.Attempt.{AddsNoDeed}
use Rattle.registry_store.specs.Promise.{Endures, Leaves, NotesForeign, Represents, is_poisoned, state_of}
use Rattle.registry_store.specs.RunTo.{MayHaveBeenActedOn}
use Rattle.registry_wire.specs.Import.{import_of}
use Rattle.registry_commands.specs.declared.importing.Import.{Import}
use Rattle.registry_commands.specs.declared.messages.Failure.{Failure}
use Rattle.registry_commands.specs.declared.messages.Failure.TheVariants.{File, Memory, Poisoned}
use Rattle.registry_commands.specs.declared.arguments.BadArgument.{BadArgument}
use Rattle.registry_commands.specs.declared.arguments.BadArgument.TheVariants.{Caller, Key, Org, Vendor}
use Rattle.registry_commands.specs.declared.status.ExitStatus.{ExitStatus}
use Rattle.registry_commands.specs.declared.status.ExitStatus.TheVariants.{Success, Failed, Rejected}
use Rattle.registry_commands.specs.Apply.{IsOfRun}
use Rattle.registry_commands.specs.Ends.{Effect, Ends, Receives, ReceivesNothing, ReceivesPrefix, Output}
use Rattle.registry_commands.specs.Failures.{IsOfMemory, IsOfOutput, PrintsFailure, PrintsNothing}
use Rattle.registry_commands.specs.LookUp.{IsListRefused}
use Rattle.registry_commands.specs.Messages.{reply_line}
use Rattle.registry_commands.specs.Printed.{IsUnprinted}

-- ---- the arguments

-- the vendor that an argument names, or the fault of the argument
abbrev pub named_vendor : Option ℕ → Result (Option ℕ) BadArgument
named_vendor None = Err Vendor
named_vendor (Some vid) = Ok (Some vid)

abbrev pub vendor_argument : Option (List ℕ) → Result (Option ℕ) BadArgument
vendor_argument None = Ok None
vendor_argument (Some text) = named_vendor (number_of text)

-- the arguments are those of this import
pub record AreOfImport (caller key org : List ℕ) (vendor : Option (List ℕ)) (import : Import) : Type 0 where
  pub caller_is : IsSlug caller × (import.caller ≡ caller)
  pub key_is : IsKey key × (import.key ≡ key)
  pub org_is : IsSlug org × (import.org ≡ org)
  pub vendor_is : vendor_argument vendor ≡ Ok import.vendor

-- the first invalid argument, in the order caller, key, organisation, vendor
abbrev pub IsFirstBad : List ℕ → List ℕ → List ℕ → Option (List ℕ) → BadArgument → Type 0
IsFirstBad caller key org vendor Caller = ¬ IsSlug caller
IsFirstBad caller key org vendor Key = IsSlug caller × ¬ IsKey key
IsFirstBad caller key org vendor Org = IsSlug caller × IsKey key × ¬ IsSlug org
IsFirstBad caller key org vendor Vendor = IsSlug caller × IsKey key × IsSlug org × (vendor_argument vendor ≡ Err Vendor)
IsFirstBad caller key org vendor _ = ⊥

-- this is the import that the arguments ask for, or the first invalid argument, unless memory ran out
abbrev pub AsksFor : List ℕ → List ℕ → List ℕ → Option (List ℕ) → Result Import (Rejection BadArgument) → Type 0
AsksFor caller key org vendor (Ok import) = AreOfImport caller key org vendor import
AsksFor caller key org vendor (Err (WasRefused argument)) = IsFirstBad caller key org vendor argument
AsksFor caller key org vendor (Err OutOfMemory) = ⊤

-- ---- the reply

-- the exit status for a reply
abbrev pub exit_status_of : Reply → ExitStatus
exit_status_of (Done text) = Success
exit_status_of (Refused refusal) = Rejected

-- the reply's line is written and the status says whether it is a refusal; or a prefix is written, after a failure, and nothing
-- if memory ran out
abbrev pub IsReplied : (Failure → Type 0) → Reply → Ends → Type 0
IsReplied May reply ends =
    ((ends.status ≡ exit_status_of reply) × Receives ends.out (reply_line reply) × PrintsNothing ends.errors)
    ⊎ ((ends.status ≡ Failed) × ReceivesPrefix ends.out (reply_line reply)
    × PrintsFailure (λ failure. May failure × (failure ≡ Memory → ends.out.new.contents ≡ ends.out.old.contents)) ends.errors)

-- the request of an import, with this founding vendor and this list
abbrev pub request_of_import : Import → ℕ → List TopEntry → Request
request_of_import import founding_vendor doc = import_of import.caller import.key import.org founding_vendor import.vendor doc

module _ {S : Type 0} {g : Ghosts S} where
  -- The request was acted on: its reply's line is written, and the registry represents the history after it. Whatever its store
  -- holds, the registry is not poisoned, and no call of it found the rows of no history, if none had before.
  pub record GivesReply (did : Effect S g) (r : Request) : Type 0 where
    pub reply : Reply
    pub status_is : did.ends.status ≡ exit_status_of reply
    pub gained : Receives did.ends.out (reply_line reply)
    pub quiet : PrintsNothing did.ends.errors
    pub sound : is_poisoned did.new ≡ false
    pub notes : NotesForeign did.old did.new None
    pub answered : (h : History) → MayHaveBeenActedOn did.old h r → HasCleanDisk (state_of did.new) → (reply ≡ reply_to h r) × Represents did.new (after_one h r)

  -- The registry is poisoned and nothing is written; or it represents the history after the request, and a prefix of the reply's
  -- line is written. A crash leaves the history before the request or after it.
  pub record IsCut (new : Registry S g) (h : History) (r : Request) (out : Output) : Type 0 where
    pub gained : ReceivesPrefix out (reply_line (reply_to h r))
    pub leaves : Leaves newest (state_of new) (λ x. (x ≡ h) ⊎ (x ≡ after_one h r))
    pub ends : ((is_poisoned new ≡ true) × Keeps out.old.contents out.new.contents) ⊎ Represents new (after_one h r)

  -- The request failed, or the output did. A part of the reply's line is written only if the output failed.
  pub record IsFailed (did : Effect S g) (r : Request) : Type 0 where
    pub status_is : did.ends.status ≡ Failed
    pub cut : (h : History) → MayHaveBeenActedOn did.old h r → HasCleanDisk (state_of did.new) → IsCut did.new h r did.ends.out
    pub told : PrintsFailure (λ failure. IsOfRun did.old did.new (λ h. MayHaveBeenActedOn did.old h r) failure × IsOfOutput did.ends.out.old.failures did.ends.out.new.failures failure
        × (failure ≢ File → did.ends.out.new.contents ≡ did.ends.out.old.contents)) did.ends.errors

  -- One request was acted on, or stopped by a failure. A repeat and a refused request commit nothing. A poisoned registry stays as
  -- it is, nothing is written, and the error output says that it is poisoned.
  pub record IsActedOn (did : Effect S g) (r : Request) : Type 0 where
    pub ends : GivesReply did r ⊎ IsFailed did r
    pub no_deed : (h : History) → Represents did.old h → AddsNoDeed h r → CommitsNothing (state_of did.old) (state_of did.new)
    pub endures : Endures (state_of did.old) (state_of did.new)
    pub poisoned : is_poisoned did.old ≡ true → (did.ends.status ≡ Failed) × (did.new ≡ did.old) × (did.ends.out.new.contents ≡ did.ends.out.old.contents)
        × PrintsFailure (λ failure. failure ≡ Poisoned) did.ends.errors

  -- no request was made, after a failure, and nothing was done
  abbrev pub IsNotMade : (Failure → Type 0) → Effect S g → Type 0
  IsNotMade May did = (did.new ≡ did.old) × IsUnprinted May did.ends

  -- the request of this list is acted on; or the error output says why the bytes are not a list, and nothing is done
  abbrev pub IsImportOf : Effect S g → Import → Result (List TopEntry) ReadFault → Type 0
  IsImportOf did import (Ok doc) =
      ((r : Request) × ((h : History) → Represents did.old h → r ≡ request_of_import import h.founding.vendor doc) × IsActedOn did r) ⊎ IsNotMade IsOfMemory did
  IsImportOf did import (Err fault) = (did.new ≡ did.old) × ReceivesNothing did.ends.out × IsListRefused fault did.ends.errors did.ends.status

  -- what was read in these bytes is imported; or the input failed or was too long, and nothing is done
  abbrev pub IsImported : (Failure → Type 0) → Effect S g → Import → List ℕ → Type 0
  IsImported OfInput did import bytes =
      ((read : Result (List TopEntry) ReadFault) × (length bytes ≤ most_bytes) × ReadsAs bytes read × IsImportOf did import read) ⊎ IsNotMade OfInput did
