use Rattle.std.proofs.Common.{ap, arith, length}
use Rattle.std.proofs.lemmas.List.{length-drop}
use Rattle.http_exchange.proofs.CallLemmas.{written_on}
use Rattle.http_exchange.proofs.sending.write_all.Goals as goal

pub pieces-preserved : goal.pieces-preserved
pieces-preserved g c =
    let fits = c.in-Ok.ensures.count in
    let is = ap length c.bytes_from.ensures in
    let some = c.in-Ok.taken-test.1 in
    record {
      written = written_on g.C.Connection c.args.connection.now c.pieces.connection c.write.new.self c.args.bytes.now c.bytes_from.result.now c.pieces.count c.in-Ok.taken
          c.pieces.invariant.written c.bytes_from.ensures c.in-Ok.ensures.writes (omega (arith, some));
      within = omega (arith, fits, is, length-drop c.pieces.count c.args.bytes.now, c.pieces.invariant.within);
    }
