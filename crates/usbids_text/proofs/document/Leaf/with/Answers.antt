use Rattle.std.proofs.Common.{refl}
use Rattle.usbids_text.specs.declared.kind.Depth.TheVariants.{Two}
use Rattle.usbids_text.proofs.EntryLemmas.{make_entry}
use Rattle.usbids_text.proofs.document.Leaf.with.Goals as goal

pub invariant_of-result : goal.invariant_of-result
invariant_of-result c = make_entry Two c.args.head.code c.args.head.digits c.args.head.name c.requires.code c.requires.name refl
