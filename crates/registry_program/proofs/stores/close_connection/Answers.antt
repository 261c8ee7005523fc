use Rattle.registry_program.proofs.OpeningLemmas.{closes_store}
use Rattle.registry_program.proofs.stores.close_connection.Goals as goal

pub returns : goal.returns
returns g c =
    let close = c.close_store-status in
    let e = close.ensures in
    record {
      files = close.result.1;
      closed = closes_store g.H.Host g.H.File.Disk g.E.Sink c.args.conn close.result.1 c.args.errors.now close.new.errors c.args.status close.result.0 e.kept e.well e.closed e.copied e.holds;
      lets_go = c.let_go.ensures;
    }
