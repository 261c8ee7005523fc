use Rattle.std.proofs.Common.{◌∙◌, sym, ap}
use Rattle.usbids_text.specs.declared.kind.Depth.{Depth}
use Rattle.usbids_text.specs.Entries.{is_depth}
use Rattle.usbids_text.specs.Lines.{line_of}
use Rattle.usbids_text.specs.Building.{open_of}
use Rattle.usbids_text.proofs.EntryLemmas.{entry_code, entry_depth, entry_name}
use Rattle.usbids_text.proofs.DocumentLemmas.{room_in}
use Rattle.usbids_text.proofs.builder.Builder.put.Goals as goal

pub put_top-requires-clause-code : goal.put_top-requires-clause-code
put_top-requires-clause-code c = rw c.in_ok-head.ensures (entry_code (line_of c.args.entry) c.requires.entry_line)

pub put_top-requires-clause-name : goal.put_top-requires-clause-name
put_top-requires-clause-name c = rw c.in_ok-head.ensures (entry_name (line_of c.args.entry) c.requires.entry_line)

pub put_top-requires-clause-kind : goal.put_top-requires-clause-kind
put_top-requires-clause-kind c = rw c.in_ok-head.ensures (ap (λ (d : Depth). is_depth d c.args.entry.digits) (sym c.in-Zero.is) ∙ entry_depth (line_of c.args.entry) c.requires.entry_line)

pub put_mid-requires-clause-code : goal.put_mid-requires-clause-code
put_mid-requires-clause-code c = rw c.in_ok-head.ensures (entry_code (line_of c.args.entry) c.requires.entry_line)

pub put_mid-requires-clause-name : goal.put_mid-requires-clause-name
put_mid-requires-clause-name c = rw c.in_ok-head.ensures (entry_name (line_of c.args.entry) c.requires.entry_line)

pub put_mid-requires-clause-room : goal.put_mid-requires-clause-room
put_mid-requires-clause-room c = rw c.in_ok-head.ensures (room_in (open_of c.args.self.now) (line_of c.args.entry) c.in-One.is c.requires.place)

pub put_leaf-requires-clause-code : goal.put_leaf-requires-clause-code
put_leaf-requires-clause-code c = rw c.in_ok-head.ensures (entry_code (line_of c.args.entry) c.requires.entry_line)

pub put_leaf-requires-clause-name : goal.put_leaf-requires-clause-name
put_leaf-requires-clause-name c = rw c.in_ok-head.ensures (entry_name (line_of c.args.entry) c.requires.entry_line)
