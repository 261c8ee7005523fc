use Rattle.std.proofs.Common.{refl}
use Rattle.usbids_text.specs.Entries.{leaf_line}
use Rattle.usbids_text.specs.Writing.{entry_text}
use Rattle.usbids_text.proofs.GatherLemmas.{gathers_as}
use Rattle.usbids_text.proofs.TextLemmas.{leaf_text, line_of_entry}
use Rattle.usbids_text.proofs.writing.put_leaf.Goals as goal

pub returns : goal.returns
returns g c = gathers_as c.put_line.result _ _ _ _ (entry_text (leaf_line c.args.leaf.now)) _ _ _ (leaf_text c.args.leaf.now)
    (line_of_entry c.put_line.result _ _ _ _ _ _ (leaf_line c.args.leaf.now) _ _ _ _ refl c.digits.ensures c.code.ensures c.name.ensures c.put_line.ensures)
