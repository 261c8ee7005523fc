use Rattle.std.proofs.Common.{◌≡◌, Err, sym, subst, arith, rules}
use Rattle.sqlite.specs.State.{HasCleanDisk}
use Rattle.sqlite.specs.Held.{state}
use Rattle.table_laws.proofs.InsideLemmas.{goes_then}
use Rattle.registry_tables.specs.Raising.{Raises}
use Rattle.registry_tables.proofs.FillLemmas.{said, raised_by}
use Rattle.registry_tables.proofs.ThirdLemmas.{third_reached, third_raised, third_refused}
use Rattle.registry_tables.proofs.third.raise_third.Goals as goal

pub returns-in_err-meta-clause-raised : goal.returns-in_err-meta-clause-raised
returns-in_err-meta-clause-raised g c clean inside =
    let old = state g.S.Store c.args.tx.now.conn.now in
    let new = state g.S.Store c.old_meta.new.tx.conn.now in
    let is : c.from_residual.result ≡ Err c.in_err-meta.field-0.0 = search rules in
    subst (λ r. Raises 2 old new r) (sym is) (third_refused old new c.in_err-meta.field-0.0 (c.in_err-meta.ensures.reads.told clean inside))

pub returns-clause-raised : goal.returns-clause-raised
returns-clause-raised g c clean inside =
    let a = state g.S.Store c.args.tx.now.conn.now in
    let s1 = state g.S.Store c.old_meta.new.tx.conn.now in
    let s2 = state g.S.Store c.add_third_to_fifth.new.tx.conn.now in
    let s3 = state g.S.Store c.move_rows.new.tx.conn.now in
    let s4 = state g.S.Store c.put_vendor.new.tx.conn.now in
    let s5 = state g.S.Store c.put_meta.new.tx.conn.now in
    let s6 = state g.S.Store c.fill_digests.new.tx.conn.now in
    let c5 : HasCleanDisk s5 = omega (arith, clean, c.fill_digests.ensures.survives.clean) in
    let c4 : HasCleanDisk s4 = omega (arith, c5, c.put_meta.ensures.writes.survives.clean) in
    let c3 : HasCleanDisk s3 = omega (arith, c4, c.put_vendor.ensures.writes.survives.clean) in
    let c2 : HasCleanDisk s2 = omega (arith, c3, c.move_rows.ensures.writes.survives.clean) in
    let c1 : HasCleanDisk s1 = omega (arith, c2, c.add_third_to_fifth.ensures.writes.survives.clean) in
    let one = c.in_ok-meta.ensures.reads.told c1 inside in
    let two = c.in_ok-add_third_to_fifth.ensures.writes.done c2 one.0.mode in
    let three = c.in_ok-move_rows.ensures.writes.done c3 two.0.mode in
    let four = c.in_ok-put_vendor.ensures.writes.done c4 three.0.mode in
    let five = c.in_ok-put_meta.ensures.writes.done c5 four.0.mode in
    let goes = goes_then a s4 s5 (goes_then a s3 s4 (goes_then a s2 s3 (goes_then a s1 s2 one.0 two.0) three.0) four.0) five.0 in
    let meta = c.in_ok-meta.meta in
    raised_by 2 a s5 s6 c.fill_digests.result goes (c.fill_digests.ensures.filled clean five.0.mode) (λ fills. fills.0)
    (third_raised a s1 s2 s3 s4 s5 meta one.1 two.1 three.1 four.1 five.1 s6) (c.fill_digests.ensures.foreign clean five.0.mode) (third_reached a s1 s2 s3 s4 s5 meta one.1 two.1 three.1 four.1 five.1)

pub returns-clause-named : goal.returns-clause-named
returns-clause-named g c clean inside =
    said c.fill_digests.result (c.in_ok-meta.ensures.named (omega (arith, clean, c.add_third_to_fifth.ensures.writes.survives.clean, c.move_rows.ensures.writes.survives.clean, c.put_vendor.ensures.writes.survives.clean, c.put_meta.ensures.writes.survives.clean, c.fill_digests.ensures.survives.clean)) inside)
