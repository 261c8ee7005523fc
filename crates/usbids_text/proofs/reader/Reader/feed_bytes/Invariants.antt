use Rattle.std.proofs.Common.{◌≡◌, length}
use Rattle.usbids_text.specs.Feeding.{fed}
use Rattle.usbids_text.specs.Readers.{reader_state}
use Rattle.usbids_text.proofs.reader.Reader.feed_bytes.Given as goal

abbrev pub invariant-loop-i : goal.invariant-loop-i
invariant-loop-i l = fed (reader_state l.self) l.rest ≡ fed (reader_state l.initial.self) l.piece

abbrev pub decreases-loop-i : goal.decreases-loop-i
decreases-loop-i l = length l.rest
