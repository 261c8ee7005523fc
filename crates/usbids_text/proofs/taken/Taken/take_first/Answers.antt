use Rattle.usbids_text.specs.Lines.{line_of}
use Rattle.usbids_text.proofs.ClassLemmas.{class_entry}
use Rattle.usbids_text.proofs.taken.Taken.take_first.Goals as goal

pub put-requires-clause-entry_line : goal.put-requires-clause-entry_line
put-requires-clause-entry_line c = class_entry c.args.line.now (line_of c.in-Ok-Some.entry) c.requires (rw c.in-Ok-Some.field-0-is at c.in-Ok-Some.ensures)
