use Rattle.usbids_text.specs.Cut.{lines}
use Rattle.usbids_text.proofs.UniqueLemmas.{not_both_at_once}
use Rattle.usbids_text.proofs.laws.never_both.Goals as goal

pub returns : goal.returns
returns c = λ text d n why p q. not_both_at_once (lines text) d n why p q
