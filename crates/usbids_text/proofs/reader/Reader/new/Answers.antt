use Rattle.std.proofs.Common.{inr}
use Rattle.usbids_text.specs.Building.{open_of}
use Rattle.usbids_text.proofs.FinishLemmas.{fed_start}
use Rattle.usbids_text.proofs.reader.Reader.new.Goals as goal

pub returns-clause-was_fed : goal.returns-clause-was_fed
returns-clause-was_fed c = inr (fed_start c.new.result.items (open_of c.new-2.result) c.new.ensures.items c.new-2.ensures)
