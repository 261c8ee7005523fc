use Rattle.std.proofs.Common.{◌≡◌, ◌∙◌, Err, sym, arith, rules}
use Rattle.sqlite.specs.State.{HasCleanDisk}
use Rattle.sqlite.specs.Held.{state}
use Rattle.registry_tables.proofs.WrittenLemmas.{read_then, read_as, read_fails}
use Rattle.registry_tables.proofs.written.read_written.Goals as goal

pub returns-clause-read : goal.returns-clause-read
returns-clause-read g c clean inside =
    let a = state g.S.Store c.args.tx.now.conn.now in
    let s1 = state g.S.Store c.list_curators.new.tx.conn.now in
    let s2 = state g.S.Store c.list_licences.new.tx.conn.now in
    let s3 = state g.S.Store c.list_fixed.new.tx.conn.now in
    let s4 = state g.S.Store c.kept_with_replies.new.tx.conn.now in
    let c3 : HasCleanDisk s3 = omega (arith, clean, c.kept_with_replies.ensures.reads.survives.clean) in
    let c2 : HasCleanDisk s2 = omega (arith, c3, c.list_fixed.ensures.reads.survives.clean) in
    let c1 : HasCleanDisk s1 = omega (arith, c2, c.list_licences.ensures.reads.survives.clean) in
    let one = c.in_ok-curators.ensures.reads.told c1 inside in
    let two = c.in_ok-licences.ensures.reads.told c2 one.0.mode in
    let three = c.in_ok-fixed.ensures.reads.told c3 two.0.mode in
    let four = c.in_ok-added.ensures.reads.told clean three.0.mode in
    read_as a s4 _ _ (λ t it. record { curators = it.0.0.0; licences = it.0.0.1; fixed = it.0.1; added = it.1 })
    (read_then a s3 s4 _ _ (read_then a s2 s3 _ _ (read_then a s1 s2 _ _ one two) three) four)

pub returns-in_err-curators-clause-foreign : goal.returns-in_err-curators-clause-foreign
returns-in_err-curators-clause-foreign g c clean inside foreign =
    let is : c.from_residual.result ≡ Err c.in_err-curators.field-0.0 = search rules in
    let none = (c.in_err-curators.ensures.reads.told clean inside).0 (let both = sym is ∙ foreign in cc) in
    (none.0.was_open, none.1)

pub returns-in_err-licences-clause-foreign : goal.returns-in_err-licences-clause-foreign
returns-in_err-licences-clause-foreign g c clean inside foreign =
    let a = state g.S.Store c.args.tx.now.conn.now in
    let s1 = state g.S.Store c.list_curators.new.tx.conn.now in
    let s2 = state g.S.Store c.list_licences.new.tx.conn.now in
    let c1 : HasCleanDisk s1 = omega (arith, clean, c.list_licences.ensures.reads.survives.clean) in
    let one = c.in_ok-curators.ensures.reads.told c1 inside in
    let is : c.from_residual-in_err-licences.result ≡ Err c.in_err-licences.field-0.0 = search rules in
    read_fails a s1 s2 _ c.in_err-licences.field-0.0 one (c.in_err-licences.ensures.reads.told clean one.0.mode).0 (let both = sym is ∙ foreign in cc)

pub returns-in_err-fixed-clause-foreign : goal.returns-in_err-fixed-clause-foreign
returns-in_err-fixed-clause-foreign g c clean inside foreign =
    let a = state g.S.Store c.args.tx.now.conn.now in
    let s1 = state g.S.Store c.list_curators.new.tx.conn.now in
    let s2 = state g.S.Store c.list_licences.new.tx.conn.now in
    let s3 = state g.S.Store c.list_fixed.new.tx.conn.now in
    let c2 : HasCleanDisk s2 = omega (arith, clean, c.list_fixed.ensures.reads.survives.clean) in
    let c1 : HasCleanDisk s1 = omega (arith, c2, c.list_licences.ensures.reads.survives.clean) in
    let one = c.in_ok-curators.ensures.reads.told c1 inside in
    let two = c.in_ok-licences.ensures.reads.told c2 one.0.mode in
    let is : c.from_residual-in_err-fixed.result ≡ Err c.in_err-fixed.field-0.0 = search rules in
    read_fails a s2 s3 _ c.in_err-fixed.field-0.0 (read_then a s1 s2 _ _ one two) (c.in_err-fixed.ensures.reads.told clean two.0.mode).0 (let both = sym is ∙ foreign in cc)

pub returns-in_err-added-clause-foreign : goal.returns-in_err-added-clause-foreign
returns-in_err-added-clause-foreign g c clean inside foreign =
    let a = state g.S.Store c.args.tx.now.conn.now in
    let s1 = state g.S.Store c.list_curators.new.tx.conn.now in
    let s2 = state g.S.Store c.list_licences.new.tx.conn.now in
    let s3 = state g.S.Store c.list_fixed.new.tx.conn.now in
    let s4 = state g.S.Store c.kept_with_replies.new.tx.conn.now in
    let c3 : HasCleanDisk s3 = omega (arith, clean, c.kept_with_replies.ensures.reads.survives.clean) in
    let c2 : HasCleanDisk s2 = omega (arith, c3, c.list_fixed.ensures.reads.survives.clean) in
    let c1 : HasCleanDisk s1 = omega (arith, c2, c.list_licences.ensures.reads.survives.clean) in
    let one = c.in_ok-curators.ensures.reads.told c1 inside in
    let two = c.in_ok-licences.ensures.reads.told c2 one.0.mode in
    let three = c.in_ok-fixed.ensures.reads.told c3 two.0.mode in
    let is : c.from_residual-in_err-added.result ≡ Err c.in_err-added.field-0.0 = search rules in
    read_fails a s3 s4 _ c.in_err-added.field-0.0 (read_then a s2 s3 _ _ (read_then a s1 s2 _ _ one two) three) (c.in_err-added.ensures.reads.told clean three.0.mode).0 (let both = sym is ∙ foreign in cc)
