use Rattle.usbids_text.specs.Cut.{lines}
use Rattle.usbids_text.specs.Writing.{written}
use Rattle.usbids_text.proofs.UniqueLemmas.{one_spelt}
use Rattle.usbids_text.proofs.WrittenLemmas.{written_text_is_text}
use Rattle.usbids_text.proofs.laws.written_is_text.Goals as goal

pub returns-clause-is_text : goal.returns-clause-is_text
returns-clause-is_text c = λ doc stamp s. written_text_is_text doc stamp s

pub returns-clause-no_other : goal.returns-clause-no_other
returns-clause-no_other c = λ doc other stamp s p. one_spelt (lines (written doc stamp)) other doc p (written_text_is_text doc stamp s)
