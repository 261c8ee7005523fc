-- A scan's state, the bytes that it was fed, and what it returns.
use Rattle.std.specs.Prelude.{◌≡◌, ◌⊎◌, ℕ, List, Option, Some, Result, Ok, Err}
use Rattle.usbids_text.specs.declared.fault.ReadFault.{ReadFault}
use Rattle.usbids_text.specs.declared.fault.ReadFault.TheVariants.{Line, NoMemory}
use Rattle.usbids_text.specs.declared.scan.Scan.{Scan}
use Rattle.usbids_text.specs.declared.seen.Wanted.{Wanted}
use Rattle.usbids_text.specs.Entries.{TopEntry}
use Rattle.usbids_text.specs.Documents.{IsTextOf, FaultAt}
use Rattle.usbids_text.specs.Finding.{find_mid}
use Rattle.usbids_text.specs.Feeding.{fed, start}
use Rattle.usbids_text.specs.Scanning.{Scanned, scanned_of}

abbrev pub scan_state : Scan → Scanned
scan_state r = record { pending = r.pending.items; seen = r.seen }

-- the scan looks for this device and was fed exactly these bytes, or it has run out of memory and stays so
abbrev pub Seeks : Scan → Wanted → List ℕ → Type 0
Seeks r wanted text = (r.wanted ≡ wanted) × ((r.seen.fault ≡ Some NoMemory) ⊎ (scan_state r ≡ scanned_of wanted (fed start text)))

-- the name of the first match in the text's document, the text's first fault, or out of memory
abbrev pub LooksUpAs : Wanted → List ℕ → Result (Option (List ℕ)) ReadFault → Type 0
LooksUpAs wanted text (Ok found) = (doc : List TopEntry) × IsTextOf text doc × (found ≡ find_mid wanted.vendor wanted.code doc)
LooksUpAs wanted text (Err NoMemory) = Unit {0}
LooksUpAs wanted text (Err (Line f)) = FaultAt text f.line f.why
