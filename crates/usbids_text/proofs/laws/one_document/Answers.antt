use Rattle.usbids_text.specs.Cut.{lines}
use Rattle.usbids_text.proofs.UniqueLemmas.{one_spelt}
use Rattle.usbids_text.proofs.laws.one_document.Goals as goal

pub returns : goal.returns
returns c = λ text a b p q. one_spelt (lines text) a b p q
