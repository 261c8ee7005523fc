use Rattle.std.proofs.Common.{◌≤◌, ◌-◌, length}
use Rattle.http_exchange.specs.Exchanges.{HasWritten}
use Rattle.http_exchange.proofs.sending.write_all.Given as goal

abbrev pub invariant-pieces : goal.invariant-pieces
invariant-pieces g l = record {
  written : HasWritten g.C.Connection l.initial.connection l.bytes l.connection l.count;
  within : l.count ≤ length l.bytes;
}

abbrev pub decreases-pieces : goal.decreases-pieces
decreases-pieces g l = length l.bytes - l.count
