use Rattle.usbids_text.proofs.EntryLemmas.{new_mid}
use Rattle.usbids_text.proofs.document.Mid.with.Goals as goal

pub invariant_of-result : goal.invariant_of-result
invariant_of-result c = new_mid c.args.head.code c.args.head.digits c.args.head.name c.requires.code c.requires.name
