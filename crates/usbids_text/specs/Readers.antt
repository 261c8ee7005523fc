-- A reader's state, and the bytes that it was fed.
use Rattle.std.specs.Prelude.{◌⊎◌, ◌≡◌, ℕ, List, Option, Some}
use Rattle.usbids_text.specs.declared.fault.ReadFault.{ReadFault}
use Rattle.usbids_text.specs.declared.fault.ReadFault.TheVariants.{NoMemory}
use Rattle.usbids_text.specs.declared.reader.Reader.{Reader}
use Rattle.usbids_text.specs.Held.{held_of}
use Rattle.usbids_text.specs.Feeding.{Fed, fed, start}

abbrev pub reader_state : Reader → Fed
reader_state r = record { pending = r.pending.items; held = held_of r.taken }

-- the fault that the reader returns from now on
abbrev pub reader_fault : Reader → Option ReadFault
reader_fault r = r.taken.fault

-- the reader was fed exactly these bytes, or it has run out of memory and stays so
abbrev pub WasFed : Reader → List ℕ → Type 0
WasFed r text = (reader_fault r ≡ Some NoMemory) ⊎ (reader_state r ≡ fed start text)
