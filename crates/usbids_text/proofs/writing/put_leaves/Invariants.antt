use Rattle.std.proofs.Common.{◌≡◌, take}
use Rattle.usbids_text.specs.Gathering.{Gains}
use Rattle.usbids_text.specs.Entries.{leaves_lines}
use Rattle.usbids_text.specs.Writing.{lines_text}
use Rattle.usbids_text.proofs.writing.put_leaves.Given as goal

abbrev pub invariant-loop-leaf : goal.invariant-loop-leaf
invariant-loop-leaf g l = record {
  gains : Gains (g.W.Sink.contents l.initial.sink) l.initial.waiting.bytes.items (g.W.Sink.contents l.sink) l.waiting.bytes.items (lines_text (leaves_lines (take l.leaf-index l.leaves)));
  same : g.W.Sink.failures l.sink ≡ g.W.Sink.failures l.initial.sink;
}
