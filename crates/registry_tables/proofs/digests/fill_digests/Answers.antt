use Rattle.std.proofs.Common.{◌≡◌, Err, sym, ◌∙◌, arith, rules}
use Rattle.sqlite.specs.State.{HasCleanDisk}
use Rattle.sqlite.specs.Held.{state}
use Rattle.registry_tables.proofs.FillLemmas.{all_filled, rest_refused}
use Rattle.registry_tables.proofs.WriteLemmas.{ok_as}
use Rattle.registry_tables.proofs.digests.fill_digests.Goals as goal

pub returns-clause-filled : goal.returns-clause-filled
returns-clause-filled g c clean inside =
    let a = state g.S.Store c.args.tx.now.conn.now in
    let s1 = state g.S.Store c.read_written.new.tx.conn.now in
    let s2 = state g.S.Store c.put_digest.new.tx.conn.now in
    let s3 = state g.S.Store c.put_pages.new.tx.conn.now in
    let c2 : HasCleanDisk s2 = omega (arith, clean, c.put_pages.ensures.survives.clean) in
    let c1 : HasCleanDisk s1 = omega (arith, c2, c.put_digest.ensures.writes.survives.clean) in
    let one = c.in_ok-written.ensures.read c1 inside in
    let two = c.in_ok-put_digest.ensures.writes.done c2 one.0.mode in
    ok_as c.put_pages.result (all_filled a s1 s2 s3 c.args.vendor c.args.name.now c.in_ok-written.written c.in_ok-founding.founding c.in_ok-head.head one c.in_ok-founding.ensures.founding c.in_ok-head.ensures.count c.in_ok-head.ensures.digest two)
    (c.put_pages.ensures.filled clean two.0.mode two.0.is_open)

pub returns-clause-foreign : goal.returns-clause-foreign
returns-clause-foreign g c clean inside foreign =
    let a = state g.S.Store c.args.tx.now.conn.now in
    let s1 = state g.S.Store c.read_written.new.tx.conn.now in
    let s2 = state g.S.Store c.put_digest.new.tx.conn.now in
    let s3 = state g.S.Store c.put_pages.new.tx.conn.now in
    let c2 : HasCleanDisk s2 = omega (arith, clean, c.put_pages.ensures.survives.clean) in
    let c1 : HasCleanDisk s1 = omega (arith, c2, c.put_digest.ensures.writes.survives.clean) in
    let one = c.in_ok-written.ensures.read c1 inside in
    let two = c.in_ok-put_digest.ensures.writes.done c2 one.0.mode in
    (one.0.was_open, rest_refused a s1 s2 _ c.in_ok-head.head one two (c.put_pages.ensures.foreign clean two.0.mode two.0.is_open foreign))

pub returns-in_err-written-clause-foreign : goal.returns-in_err-written-clause-foreign
returns-in_err-written-clause-foreign g c clean inside foreign =
    let is : c.from_residual.result ≡ Err c.in_err-written.field-0.0 = search rules in
    c.in_err-written.ensures.foreign clean inside (let both = sym is ∙ foreign in cc)
