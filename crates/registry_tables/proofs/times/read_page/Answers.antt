use Rattle.std.proofs.Common.{◌≡◌, Err, sym, ◌∙◌, arith, rules}
use Rattle.sqlite.specs.State.{HasCleanDisk}
use Rattle.sqlite.specs.Held.{state}
use Rattle.registry_tables.proofs.TimeLemmas.{page_read, page_refused}
use Rattle.registry_tables.proofs.times.read_page.Goals as goal

pub returns-clause-read : goal.returns-clause-read
returns-clause-read g c clean inside =
    let a = state g.S.Store c.args.tx.now.conn.now in
    let b = state g.S.Store c.kept_after.new.tx.conn.now in
    let d = state g.S.Store c.digests_after.new.tx.conn.now in
    let early : HasCleanDisk b = omega (arith, clean, c.digests_after.ensures.reads.survives.clean) in
    let one = c.in_ok-rows.ensures.reads.told early inside in
    let two = c.in_ok-digests.ensures.reads.told clean one.0.mode in
    page_read a b d c.args.after c.args.most c.in_ok-rows.rows.items c.in_ok-digests.digests.items c.accepted_from.result one two (rw (c.deref.ensures.value, c.deref-2.ensures.value) at c.accepted_from.ensures.reads)

pub returns-clause-foreign : goal.returns-clause-foreign
returns-clause-foreign g c clean inside foreign = absurd (c.accepted_from.ensures.kind foreign)

pub returns-in_err-rows-clause-foreign : goal.returns-in_err-rows-clause-foreign
returns-in_err-rows-clause-foreign g c clean inside foreign =
    let is : c.from_residual.result ≡ Err c.in_err-rows.field-0.0 = search rules in
    ((c.in_err-rows.ensures.reads.told clean inside).0 (let both = sym is ∙ foreign in cc)).1

pub returns-in_err-digests-clause-foreign : goal.returns-in_err-digests-clause-foreign
returns-in_err-digests-clause-foreign g c clean inside foreign =
    let a = state g.S.Store c.args.tx.now.conn.now in
    let b = state g.S.Store c.kept_after.new.tx.conn.now in
    let early : HasCleanDisk b = omega (arith, clean, c.digests_after.ensures.reads.survives.clean) in
    let one = c.in_ok-rows.ensures.reads.told early inside in
    let is : c.from_residual-in_err-digests.result ≡ Err c.in_err-digests.field-0.0 = search rules in
    page_refused a b _ one ((c.in_err-digests.ensures.reads.told clean one.0.mode).0 (let both = sym is ∙ foreign in cc)).1
