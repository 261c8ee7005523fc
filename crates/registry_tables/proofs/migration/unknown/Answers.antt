use Rattle.std.proofs.Common.{IsTrue, sym, subst, arith, refl, rules}
use Rattle.sqlite.specs.State.{HasCleanDisk}
use Rattle.sqlite.specs.Held.{state}
use Rattle.table_laws.specs.Inside.{CommitsNothing}
use Rattle.registry_tables.proofs.migration.unknown.Goals as goal

pub returns-in-Ok-clause-open : goal.returns-in-Ok-clause-open
returns-in-Ok-clause-open g c clean foreign =
    let begun = c.begin-tx.result.conn.now in
    let mid = c.try_store-ran.new.tx.conn.now in
    let end = c.conn-1.given.0 in
    let ends : CommitsNothing (state g.S.Store mid) (state g.S.Store end) = search rules in
    let early : HasCleanDisk (state g.S.Store mid) = omega (arith, clean, ends.clean) in
    let inside : IsTrue (state g.S.Store begun).in_transaction = subst (λ b. IsTrue (state g.S.Store b).in_transaction) (sym c.begin-tx.ensures.begun) refl in
    let goes = c.in-Ok.ensures.writes.done early inside in
    subst (λ b. IsTrue (state g.S.Store b).is_open) c.begin-tx.ensures.begun goes.was_open
