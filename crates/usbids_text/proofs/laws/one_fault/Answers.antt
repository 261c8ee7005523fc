use Rattle.usbids_text.specs.Cut.{lines}
use Rattle.usbids_text.proofs.InnerLemmas.{lines_inner}
use Rattle.usbids_text.proofs.UniqueLemmas.{fault_is_one}
use Rattle.usbids_text.proofs.laws.one_fault.Goals as goal

pub returns : goal.returns
returns c = λ text m n v w p q. fault_is_one (lines text) m n v w (lines_inner text) p q
