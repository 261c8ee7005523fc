use Rattle.std.proofs.Common.{◌≡◌, ◌⊎◌, ◌≤◌, ◌-◌, [], length}
use Rattle.std.specs.Io.KnownBytes.{Consumes}
use Rattle.httparse.specs.Grammar.{HasNoRequest, MayBecomeRequest}
use Rattle.registry_http.proofs.head.read_head.Given as goal

abbrev pub invariant-loop-source : goal.invariant-loop-source
invariant-loop-source g l = record {
  read : Consumes (g.R.Source.remaining l.initial.source) (g.R.Source.remaining l.source) l.buffer.items;
  none : HasNoRequest l.buffer.items;
  may : (l.buffer.items ≡ []) ⊎ MayBecomeRequest l.buffer.items;
  short : length l.buffer.items ≤ 8192;
  same_failures : g.R.Source.failures l.source ≡ g.R.Source.failures l.initial.source;
}

abbrev pub decreases-loop-source : goal.decreases-loop-source
decreases-loop-source g l = 8192 - length l.buffer.items
