use Rattle.std.proofs.Common.{ap, sym}
use Rattle.usbids_text.specs.Writing.{stamp_text}
use Rattle.usbids_text.proofs.GatherLemmas.{gathers_as}
use Rattle.usbids_text.proofs.writing.put_stamps.Goals as goal

pub returns-in-Some : goal.returns-in-Some
returns-in-Some g c = gathers_as c.put_stamp.result _ _ _ _ _ _ _ _ (ap stamp_text (sym c.in-Some.is)) c.put_stamp.ensures
