use Rattle.std.proofs.Common.{◌≡◌, take}
use Rattle.usbids_text.specs.Gathering.{Gains}
use Rattle.usbids_text.specs.Entries.{mids_lines}
use Rattle.usbids_text.specs.Writing.{lines_text}
use Rattle.usbids_text.proofs.writing.put_mids.Given as goal

abbrev pub invariant-loop-mid : goal.invariant-loop-mid
invariant-loop-mid g l = record {
  gains : Gains (g.W.Sink.contents l.initial.sink) l.initial.waiting.bytes.items (g.W.Sink.contents l.sink) l.waiting.bytes.items (lines_text (mids_lines (take l.mid-index l.mids)));
  same : g.W.Sink.failures l.sink ≡ g.W.Sink.failures l.initial.sink;
}
