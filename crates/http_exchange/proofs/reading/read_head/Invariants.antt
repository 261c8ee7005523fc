use Rattle.std.proofs.Common.{◌≤◌, ◌-◌, length}
use Rattle.httparse.specs.Grammar.{HasNoResponse, MayBecomeResponse}
use Rattle.http_exchange.specs.Exchanges.{HasRead, most_message}
use Rattle.http_exchange.proofs.reading.read_head.Given as goal

abbrev pub invariant-parts : goal.invariant-parts
invariant-parts g l = record {
  read : HasRead g.C.Connection l.initial.connection l.connection l.buffer.items;
  none : HasNoResponse l.buffer.items;
  begun : MayBecomeResponse l.buffer.items;
  few : length l.buffer.items ≤ most_message;
}

abbrev pub decreases-parts : goal.decreases-parts
decreases-parts g l = 16384 - length l.buffer.items
