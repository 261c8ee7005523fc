use Rattle.std.proofs.Common.{refl, inr}
use Rattle.usbids_text.specs.Feeding.{fed}
use Rattle.usbids_text.proofs.scan.Scan.new.Goals as goal

pub returns : goal.returns
unfolding fed
returns c = (refl, inr (rw c.new.ensures.items refl))
