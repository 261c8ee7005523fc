use Rattle.http_exchange.specs.Bodies.{IsBodyAt, bytes_left}
use Rattle.http_exchange.specs.Exchanges.{HasRead}
use Rattle.http_exchange.proofs.reading.read_body.Given as goal

abbrev pub invariant-pieces : goal.invariant-pieces
invariant-pieces g l = record {
  read : (first : g.row.C.Denot) → HasRead g.C.Connection first l.initial.connection l.initial.buffer.items → HasRead g.C.Connection first l.connection l.buffer.items;
  is_at : IsBodyAt l.buffer.items l.start l.part.decoder l.part.at l.part.body.items;
}

abbrev pub decreases-pieces : goal.decreases-pieces
decreases-pieces g l = bytes_left l.buffer.items l.part.at
