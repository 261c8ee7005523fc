use Rattle.std.proofs.lemmas.Result.{err_from_is_err_and}
use Rattle.shared_registry.proofs.AppendLemmas.{did_not_take, offered_new}
use Rattle.shared_registry.proofs.cursor.Cursor.append_new.Goals as goal

pub returns-clause-ok : goal.returns-clause-ok
returns-clause-ok g c = offered_new g.L.Log c.args.self.now c.offer.new.self c.args.line.now (rw c.if-not-is_new.false at c.in_ok-is_new.ensures.ok)

pub returns-then-not-is_new-clause-err : goal.returns-then-not-is_new-clause-err
returns-then-not-is_new-clause-err g c = let offered = rw c.if-not-is_new.true at c.in_ok-is_new.ensures.ok in ((c.args.line.now, offered.0), offered.1)

pub returns-in_err-is_new-clause-err : goal.returns-in_err-is_new-clause-err
returns-in_err-is_new-clause-err g c =
    let p = err_from_is_err_and c.from_residual.result c.from_residual.ensures.1 in
    rw (p.1, p.2) (did_not_take g.L.Log c.args.self.now c.offer.new.self c.args.line.now c.in_err-is_new.field-0.0 c.in_err-is_new.ensures.err)
