-- A builder's state, as a value.
use Rattle.usbids_text.specs.declared.builder.Builder.{Builder}
use Rattle.usbids_text.specs.Opens.{Open}

abbrev pub open_of : Builder → Open
open_of b = record { tops = b.tops; top = b.top; mid = b.mid }
