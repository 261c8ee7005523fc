use Rattle.std.proofs.Common.{◌≡◌, ◌≤◌, ◌-◌, length, take}
use Rattle.std.specs.Io.KnownBytes.{Appends}
use Rattle.byte_streams.proofs.streams.put_all.Given as goal

abbrev pub invariant-loop-count : goal.invariant-loop-count
invariant-loop-count g l = record {
  put : Appends (g.W.Sink.contents l.initial.sink) (g.W.Sink.contents l.sink) (take l.count l.bytes);
  within : l.count ≤ length l.bytes;
  same_failures : g.W.Sink.failures l.sink ≡ g.W.Sink.failures l.initial.sink;
}

abbrev pub decreases-loop-count : goal.decreases-loop-count
decreases-loop-count g l = length l.bytes - l.count
