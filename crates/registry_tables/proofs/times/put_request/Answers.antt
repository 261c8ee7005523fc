use Rattle.sqlite.specs.Held.{state}
use Rattle.registry_tables.proofs.TimeLemmas.{puts_one}
use Rattle.registry_tables.proofs.times.put_request.Goals as goal

pub returns-clause-put : goal.returns-clause-put
returns-clause-put g c clean inside is_open =
    let a = state g.S.Store c.args.tx.now.conn.now in
    let b = state g.S.Store c.put_times.new.tx.conn.now in
    let next = c.in_ok-next.ensures.next in
    let opened = c.opened_then.ensures c.args.place.petitions next.1 in
    puts_one a b c.args.place c.in_ok-next.next c.args.accepted.now c.opened_then.result next.0 next.1 opened (rw c.closed_named.ensures at (c.in_ok-put_times.ensures.writes.done clean inside is_open))
