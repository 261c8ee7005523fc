-- The state after the complete lines, as a value.
use Rattle.usbids_text.specs.declared.taken.Taken.{Taken}
use Rattle.usbids_text.specs.Building.{open_of}
use Rattle.usbids_text.specs.Feeding.{Held}

abbrev pub held_of : Taken → Held
held_of r = record { line = r.line; built = open_of r.builder; fault = r.fault }
