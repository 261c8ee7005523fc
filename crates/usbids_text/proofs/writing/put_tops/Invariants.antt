use Rattle.std.proofs.Common.{◌≡◌, take}
use Rattle.usbids_text.specs.Gathering.{Gains}
use Rattle.usbids_text.specs.Entries.{tops_lines}
use Rattle.usbids_text.specs.Writing.{lines_text}
use Rattle.usbids_text.proofs.writing.put_tops.Given as goal

abbrev pub invariant-loop-top : goal.invariant-loop-top
invariant-loop-top g l = record {
  gains : Gains (g.W.Sink.contents l.initial.sink) l.initial.waiting.bytes.items (g.W.Sink.contents l.sink) l.waiting.bytes.items (lines_text (tops_lines (take l.top-index l.tops)));
  same : g.W.Sink.failures l.sink ≡ g.W.Sink.failures l.initial.sink;
}
