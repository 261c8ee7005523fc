use Rattle.usbids_text.specs.Writing.{written}
use Rattle.usbids_text.proofs.GatherLemmas.{fails_last}
use Rattle.usbids_text.proofs.WrittenLemmas.{written_text_is_text}
use Rattle.usbids_text.proofs.writing.write.Goals as goal

pub returns-in-Ok-pour-clause-is_text : goal.returns-in-Ok-pour-clause-is_text
returns-in-Ok-pour-clause-is_text g c = written_text_is_text c.args.document.now c.args.stamp (rw c.tops-tops.ensures.value at c.tops-tops.ensures.sound)

pub returns-in-Err-pour-clause-writes : goal.returns-in-Err-pour-clause-writes
returns-in-Err-pour-clause-writes g c = fails_last _ _ _ _ _ (written c.args.document.now c.args.stamp) _ _ _ c.new.ensures c.in-Ok.ensures.0 c.in-Ok.ensures.1 c.in-Err-pour.ensures.gathers

pub returns-in-Err-pour-clause-is_text : goal.returns-in-Err-pour-clause-is_text
returns-in-Err-pour-clause-is_text g c = written_text_is_text c.args.document.now c.args.stamp (rw c.tops-tops.ensures.value at c.tops-tops.ensures.sound)

pub returns-in-Err-clause-is_text : goal.returns-in-Err-clause-is_text
returns-in-Err-clause-is_text g c = written_text_is_text c.args.document.now c.args.stamp (rw c.tops-tops.ensures.value at c.tops-tops.ensures.sound)
