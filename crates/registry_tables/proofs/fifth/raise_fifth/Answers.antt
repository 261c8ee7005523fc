use Rattle.std.proofs.Common.{◌≡◌, Err, sym, subst, arith, rules}
use Rattle.sqlite.specs.State.{HasCleanDisk}
use Rattle.sqlite.specs.Held.{state}
use Rattle.table_laws.proofs.InsideLemmas.{goes_then}
use Rattle.registry_tables.specs.Raising.{Raises}
use Rattle.registry_tables.proofs.FillLemmas.{said, raised_by}
use Rattle.registry_tables.proofs.FifthLemmas.{fifth_refused, fifth_reached, fifth_raised, fourth_said}
use Rattle.registry_tables.proofs.fifth.raise_fifth.Goals as goal

pub returns-in_err-meta-clause-raised : goal.returns-in_err-meta-clause-raised
returns-in_err-meta-clause-raised g c clean inside =
    let a = state g.S.Store c.args.tx.now.conn.now in
    let s1 = state g.S.Store c.add_fifth.new.tx.conn.now in
    let new = state g.S.Store c.newest_meta.new.tx.conn.now in
    let c1 : HasCleanDisk s1 = omega (arith, clean, c.newest_meta.ensures.reads.survives.clean) in
    let one = c.in_ok-add_fifth.ensures.writes.done c1 inside in
    let is : c.from_residual-in_err-meta.result ≡ Err c.in_err-meta.field-0.0 = search rules in
    subst (λ r. Raises 4 a new r) (sym is) (fifth_refused a s1 one.1 new c.in_err-meta.field-0.0 one.0.was_open (c.in_err-meta.ensures.reads.told clean one.0.mode))

pub returns-clause-raised : goal.returns-clause-raised
returns-clause-raised g c clean inside =
    let a = state g.S.Store c.args.tx.now.conn.now in
    let s1 = state g.S.Store c.add_fifth.new.tx.conn.now in
    let s2 = state g.S.Store c.newest_meta.new.tx.conn.now in
    let s3 = state g.S.Store c.put_meta.new.tx.conn.now in
    let s4 = state g.S.Store c.fill_times.new.tx.conn.now in
    let c3 : HasCleanDisk s3 = omega (arith, clean, c.fill_times.ensures.survives.clean) in
    let c2 : HasCleanDisk s2 = omega (arith, c3, c.put_meta.ensures.writes.survives.clean) in
    let c1 : HasCleanDisk s1 = omega (arith, c2, c.newest_meta.ensures.reads.survives.clean) in
    let one = c.in_ok-add_fifth.ensures.writes.done c1 inside in
    let two = c.in_ok-meta.ensures.reads.told c2 one.0.mode in
    let three = c.in_ok-put_meta.ensures.writes.done c3 two.0.mode in
    let meta = c.in_ok-meta.meta in
    raised_by 4 a s3 s4 c.fill_times.result (goes_then a s2 s3 (goes_then a s1 s2 one.0 two.0) three.0) (c.fill_times.ensures.filled clean three.0.mode three.0.is_open) (λ puts. puts.0)
    (fifth_raised a s1 one.1 s2 s3 meta two.1 three.1 s4) (λ foreign. (three.0.is_open, c.fill_times.ensures.foreign clean three.0.mode three.0.is_open foreign)) (fifth_reached a s1 one.1 s2 s3 meta two.1 three.1)

pub returns-clause-named : goal.returns-clause-named
returns-clause-named g c clean inside =
    let a = state g.S.Store c.args.tx.now.conn.now in
    let s1 = state g.S.Store c.add_fifth.new.tx.conn.now in
    let s2 = state g.S.Store c.newest_meta.new.tx.conn.now in
    let c2 : HasCleanDisk s2 = omega (arith, clean, c.put_meta.ensures.writes.survives.clean, c.fill_times.ensures.survives.clean) in
    let c1 : HasCleanDisk s1 = omega (arith, c2, c.newest_meta.ensures.reads.survives.clean) in
    let one = c.in_ok-add_fifth.ensures.writes.done c1 inside in
    said c.fill_times.result (fourth_said a s1 one.1 (c.in_ok-meta.ensures.named c2 one.0.mode))
