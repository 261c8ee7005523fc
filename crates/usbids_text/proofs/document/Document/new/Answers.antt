use Rattle.usbids_text.proofs.EntryLemmas.{no_tops}
use Rattle.usbids_text.proofs.document.Document.new.Goals as goal

pub invariant_of-result : goal.invariant_of-result
invariant_of-result c = rw c.new.ensures.items no_tops
