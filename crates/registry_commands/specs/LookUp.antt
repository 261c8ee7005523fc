-- What a look-up of a device in a list writes.
use Rattle.std.specs.Prelude.{◌≡◌, ◌⊎◌, ◌≤◌, ℕ, List, [], ◌∷◌, ◌++◌, codes, length, Option, Some, None, Result, Ok, Err}
use Rattle.byte_streams.specs.Streams.{most_bytes}
use Rattle.usbids_text.specs.declared.fault.ReadFault.{ReadFault}
use Rattle.usbids_text.specs.declared.fault.ReadFault.TheVariants.{Line, NoMemory}
use Rattle.usbids_text.specs.declared.seen.Wanted.{Wanted}
use Rattle.usbids_text.specs.Scans.{LooksUpAs}
use Rattle.registry_wire.specs.declared.refusal.WireRefusal.TheVariants.{BadList}
use Rattle.registry_commands.specs.declared.messages.Failure.{Failure}
use Rattle.registry_commands.specs.declared.status.ExitStatus.{ExitStatus}
use Rattle.registry_commands.specs.declared.status.ExitStatus.TheVariants.{Failed, Rejected}
use Rattle.registry_commands.specs.Ends.{Ends, ReceivesNothing, Output}
use Rattle.registry_commands.specs.Failures.{IsOfMemory, Prints, PrintsFailure}
use Rattle.registry_commands.specs.Messages.{refusal_line}
use Rattle.registry_commands.specs.Printed.{IsPrinted, IsUnprinted}

-- the message if the list has no such device
abbrev pub not_found_text : List ℕ
not_found_text = codes "not found\n"

-- the name is written as a line; or nothing is, because memory ran out
abbrev pub IsNameWritten : List ℕ → Ends → Type 0
IsNameWritten name ends = IsPrinted (name ++ 10 ∷ []) ends ⊎ IsUnprinted IsOfMemory ends

-- the name of the first match is written as a line; or, without a match, the message says so
abbrev pub IsMatched : Option (List ℕ) → Ends → Type 0
IsMatched (Some name) ends = IsNameWritten name ends
IsMatched None ends = (ends.status ≡ Rejected) × ReceivesNothing ends.out × Prints ends.errors not_found_text

-- the error output says why the bytes are not a list, or that memory ran out
abbrev pub IsListRefused : ReadFault → Output → ExitStatus → Type 0
IsListRefused (Line fault) errors status = ((status ≡ Rejected) × Prints errors (refusal_line (BadList fault))) ⊎ ((status ≡ Failed) × PrintsFailure IsOfMemory errors)
IsListRefused NoMemory errors status = (status ≡ Failed) × PrintsFailure IsOfMemory errors

-- what is written by what was found, or by the fault of the list
abbrev pub TellsFound : Result (Option (List ℕ)) ReadFault → Ends → Type 0
TellsFound (Ok found) ends = IsMatched found ends
TellsFound (Err fault) ends = ReceivesNothing ends.out × IsListRefused fault ends.errors ends.status

-- what was found in these bytes is written; or the input failed or was too long
abbrev pub IsLookedUp : (Failure → Type 0) → Wanted → List ℕ → Ends → Type 0
IsLookedUp OfInput wanted bytes ends =
    ((found : Result (Option (List ℕ)) ReadFault) × (length bytes ≤ most_bytes) × LooksUpAs wanted bytes found × TellsFound found ends) ⊎ IsUnprinted OfInput ends
