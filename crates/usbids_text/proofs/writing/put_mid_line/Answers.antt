use Rattle.std.proofs.Common.{refl}
use Rattle.usbids_text.specs.Entries.{mid_line}
use Rattle.usbids_text.proofs.TextLemmas.{line_of_entry}
use Rattle.usbids_text.proofs.writing.put_mid_line.Goals as goal

pub returns : goal.returns
returns g c = line_of_entry c.put_line.result _ _ _ _ _ _ (mid_line c.args.mid.now) _ _ _ _ refl c.digits.ensures c.code.ensures c.name.ensures c.put_line.ensures
