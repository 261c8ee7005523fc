use Rattle.usbids_text.proofs.EntryLemmas.{new_top}
use Rattle.usbids_text.proofs.document.Top.with.Goals as goal

pub invariant_of-result : goal.invariant_of-result
invariant_of-result c = rw c.new.ensures.items (new_top c.args.kind c.args.head.code c.args.head.digits c.args.head.name c.requires.code c.requires.name c.requires.kind)
