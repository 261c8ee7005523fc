use Rattle.std.proofs.Common.{◌≡◌, Err, false, true, inl, inr, rules, subst, arith}
use Rattle.sqlite.specs.State.{HasCleanDisk, Survives, IsRolledBack}
use Rattle.sqlite.specs.Held.{state}
use Rattle.table_laws.specs.Inside.{CommitsNothing}
use Rattle.registry_rules.specs.Run.{after_one}
use Rattle.registry_tables.specs.Rows.{newest}
use Rattle.registry_schema.specs.declared.fault.TableFault.TheVariants.{Foreign}
use Rattle.registry_store.specs.Promise.{IsAt}
use Rattle.registry_store.specs.Attempt.{CommitsOne}
use Rattle.registry_store.specs.Witness.{WasSeen}
use Rattle.registry_store.proofs.TransactionLemmas.{as_before, asked_of, commits_none, committed, err_of, keeps_all, never_here, never_foreign, ok_of, on_err_of, one_at_most, said_of, saw_deed}
use Rattle.registry_store.proofs.attempt.attempt.Goals as goal

-- ---- the rows were written, and the witness saw the request

pub returns-clause-answered : goal.returns-clause-answered
returns-clause-answered g c clean h counts at =
    let new : c.in-Ok.answer.is_new ≡ true = search rules in
    let end = c.commit.new.tx.0 in
    let late : HasCleanDisk (state g.S.Store end) = search rules in
    let it = committed g.S.Store c.args.conn.now c.transaction-tx.result.conn.now c.act_on.new.tx.conn.now c.transaction-tx.ensures.begun c.schema-schema.ensures.live c.args.summary.now c.act_on.new.summary
    c.args.request.now c.in-Ok.answer (λ clean inside. ok_of _ c.in-Ok.is (c.in_ok-answer.ensures.ok clean inside)) c.act_on.ensures.survives (WasSeen g.W.Witness.saw c.args.witness.now c.act_on.new.witness c.args.request.now) (ok_of _ c.in-Ok.is c.in_ok-answer.ensures.seen new) end c.commit.ensures.survives g.met.S.Store.settled c.in_ok-commit.ensures.ok late h counts at in
    let same : end ≡ c.conn-2-1.given.0 = search rules in
    (it.0, it.1, subst (λ x. IsAt newest (state g.S.Store x) (after_one h c.args.request.now)) same it.2)

pub returns-clause-survives : goal.returns-clause-survives
returns-clause-survives g c =
    let new : c.in-Ok.answer.is_new ≡ true = search rules in
    let same : c.commit.new.tx.0 ≡ c.conn-2-1.given.0 = search rules in
    subst (λ x. Survives (state g.S.Store c.args.conn.now) (state g.S.Store x) (CommitsOne (state g.S.Store c.args.conn.now) c.args.summary.now c.args.request.now (WasSeen g.W.Witness.saw c.args.witness.now c.act_on.new.witness c.args.request.now))) same
    (one_at_most g.S.Store c.args.conn.now c.transaction-tx.result.conn.now c.act_on.new.tx.conn.now c.transaction-tx.ensures.begun c.schema-schema.ensures.live c.args.summary.now c.act_on.new.summary
    c.args.request.now c.in-Ok.answer (λ clean inside. ok_of _ c.in-Ok.is (c.in_ok-answer.ensures.ok clean inside)) c.act_on.ensures.survives (WasSeen g.W.Witness.saw c.args.witness.now c.act_on.new.witness c.args.request.now) (ok_of _ c.in-Ok.is c.in_ok-answer.ensures.seen new) c.commit.new.tx.0 c.commit.ensures.survives)

pub returns-in_err-commit-clause-survives : goal.returns-in_err-commit-clause-survives
returns-in_err-commit-clause-survives g c =
    let new : c.in-Ok.answer.is_new ≡ true = search rules in
    let same : c.commit.new.tx.0 ≡ c.conn-2-1.given.0 = search rules in
    subst (λ x. Survives (state g.S.Store c.args.conn.now) (state g.S.Store x) (CommitsOne (state g.S.Store c.args.conn.now) c.args.summary.now c.args.request.now (WasSeen g.W.Witness.saw c.args.witness.now c.act_on.new.witness c.args.request.now))) same
    (one_at_most g.S.Store c.args.conn.now c.transaction-tx.result.conn.now c.act_on.new.tx.conn.now c.transaction-tx.ensures.begun c.schema-schema.ensures.live c.args.summary.now c.act_on.new.summary
    c.args.request.now c.in-Ok.answer (λ clean inside. ok_of _ c.in-Ok.is (c.in_ok-answer.ensures.ok clean inside)) c.act_on.ensures.survives (WasSeen g.W.Witness.saw c.args.witness.now c.act_on.new.witness c.args.request.now) (ok_of _ c.in-Ok.is c.in_ok-answer.ensures.seen new) c.commit.new.tx.0 c.commit.ensures.survives)

pub returns-clause-no_deed : goal.returns-clause-no_deed
returns-clause-no_deed g c h counts at none =
    let new : c.in-Ok.answer.is_new ≡ true = search rules in
    let same : c.commit.new.tx.0 ≡ c.conn-2-1.given.0 = search rules in
    subst (λ x. CommitsNothing (state g.S.Store c.args.conn.now) (state g.S.Store x)) same
    (never_here g.S.Store c.args.conn.now c.transaction-tx.result.conn.now c.act_on.new.tx.conn.now c.transaction-tx.ensures.begun c.schema-schema.ensures.live c.args.summary.now c.act_on.new.summary
    c.args.request.now c.in-Ok.answer (λ clean inside. ok_of _ c.in-Ok.is (c.in_ok-answer.ensures.ok clean inside)) c.act_on.ensures.survives (WasSeen g.W.Witness.saw c.args.witness.now c.act_on.new.witness c.args.request.now) (ok_of _ c.in-Ok.is c.in_ok-answer.ensures.seen new) c.commit.new.tx.0 c.commit.ensures.survives new h counts at none)

pub returns-in_err-commit-clause-no_deed : goal.returns-in_err-commit-clause-no_deed
returns-in_err-commit-clause-no_deed g c h counts at none =
    let new : c.in-Ok.answer.is_new ≡ true = search rules in
    let same : c.commit.new.tx.0 ≡ c.conn-2-1.given.0 = search rules in
    subst (λ x. CommitsNothing (state g.S.Store c.args.conn.now) (state g.S.Store x)) same
    (never_here g.S.Store c.args.conn.now c.transaction-tx.result.conn.now c.act_on.new.tx.conn.now c.transaction-tx.ensures.begun c.schema-schema.ensures.live c.args.summary.now c.act_on.new.summary
    c.args.request.now c.in-Ok.answer (λ clean inside. ok_of _ c.in-Ok.is (c.in_ok-answer.ensures.ok clean inside)) c.act_on.ensures.survives (WasSeen g.W.Witness.saw c.args.witness.now c.act_on.new.witness c.args.request.now) (ok_of _ c.in-Ok.is c.in_ok-answer.ensures.seen new) c.commit.new.tx.0 c.commit.ensures.survives new h counts at none)

pub returns-clause-asked : goal.returns-clause-asked
returns-clause-asked g c clean h counts at =
    let end : HasCleanDisk (state g.S.Store c.commit.new.tx.0) = search rules in
    let late : HasCleanDisk (state g.S.Store c.act_on.new.tx.conn.now) = omega (arith, end, c.commit.ensures.survives.clean) in
    asked_of g.S.Store c.args.conn.now c.transaction-tx.result.conn.now c.act_on.new.tx.conn.now c.transaction-tx.ensures.begun c.schema-schema.ensures.live c.args.summary.now c.args.request.now c.args.witness.now c.act_on.new.witness _
    (rw c.in-Ok.is at c.in_ok-answer.ensures.asked) c.act_on.ensures.survives late h counts at

pub returns-in_err-commit-clause-asked : goal.returns-in_err-commit-clause-asked
returns-in_err-commit-clause-asked g c clean h counts at =
    let end : HasCleanDisk (state g.S.Store c.commit.new.tx.0) = search rules in
    let late : HasCleanDisk (state g.S.Store c.act_on.new.tx.conn.now) = omega (arith, end, c.commit.ensures.survives.clean) in
    let is : c.from_residual-in_err-commit.result ≡ Err c.in_err-commit.field-0.0 = search rules in
    rw is (elim (asked_of g.S.Store c.args.conn.now c.transaction-tx.result.conn.now c.act_on.new.tx.conn.now c.transaction-tx.ensures.begun c.schema-schema.ensures.live c.args.summary.now c.args.request.now c.args.witness.now c.act_on.new.witness _
    (rw c.in-Ok.is at c.in_ok-answer.ensures.asked) c.act_on.ensures.survives late h counts at) [ inl not ↦ inl not | inr it ↦ inr (it.0, it.1, inr it.2) ])

pub returns-clause-seen : goal.returns-clause-seen
returns-clause-seen g c clean h deed counts at new_deed =
    let new : c.in-Ok.answer.is_new ≡ true = search rules in
    let end : HasCleanDisk (state g.S.Store c.commit.new.tx.0) = search rules in
    let late : HasCleanDisk (state g.S.Store c.act_on.new.tx.conn.now) = omega (arith, end, c.commit.ensures.survives.clean) in
    let says = said_of g.S.Store c.args.conn.now c.transaction-tx.result.conn.now c.act_on.new.tx.conn.now c.transaction-tx.ensures.begun c.schema-schema.ensures.live c.args.summary.now c.act_on.new.summary
    c.args.request.now c.in-Ok.answer (λ clean inside. ok_of _ c.in-Ok.is (c.in_ok-answer.ensures.ok clean inside)) c.act_on.ensures.survives late h counts at in
    let seen = ok_of _ c.in-Ok.is c.in_ok-answer.ensures.seen new in
    saw_deed g.W.Witness.saw _ _ c.args.request.now h deed c.in-Ok.answer.reply says.reply new_deed seen

-- ---- the witness missed the request

pub returns-in-Err-clause-missed : goal.returns-in-Err-clause-missed
returns-in-Err-clause-missed g c =
    err_of _ c.in-Err.is c.in_ok-answer.ensures.missed

pub returns-in-Err-clause-unseen : goal.returns-in-Err-clause-unseen
returns-in-Err-clause-unseen g c =
    let ends : CommitsNothing (state g.S.Store c.act_on.new.tx.conn.now) (state g.S.Store c.conn-in-Err-1.given.0) = search rules in
    (on_err_of c.in-Err.is c.in_ok-answer.ensures.unseen, commits_none g.S.Store c.args.conn.now c.transaction-tx.result.conn.now c.act_on.new.tx.conn.now c.conn-in-Err-1.given.0 c.transaction-tx.ensures.begun c.act_on.ensures.survives ends (λ _. ⊥))

pub returns-in-Err-clause-stays : goal.returns-in-Err-clause-stays
returns-in-Err-clause-stays g c clean =
    let ends : CommitsNothing (state g.S.Store c.act_on.new.tx.conn.now) (state g.S.Store c.conn-in-Err-1.given.0) = search rules in
    let back : HasCleanDisk (state g.S.Store c.conn-in-Err-1.given.0) → IsRolledBack (state g.S.Store c.act_on.new.tx.conn.now) (state g.S.Store c.conn-in-Err-1.given.0) = search rules in
    let late : HasCleanDisk (state g.S.Store c.act_on.new.tx.conn.now) = omega (arith, ends.clean) in
    keeps_all g.S.Store c.args.conn.now c.transaction-tx.result.conn.now c.act_on.new.tx.conn.now c.conn-in-Err-1.given.0 c.transaction-tx.ensures.begun (c.in_ok-answer.ensures.goes_on late (search rules)) (back clean)

pub returns-in-Err-clause-asked : goal.returns-in-Err-clause-asked
returns-in-Err-clause-asked g c clean h counts at =
    let ends : CommitsNothing (state g.S.Store c.act_on.new.tx.conn.now) (state g.S.Store c.conn-in-Err-1.given.0) = search rules in
    let late : HasCleanDisk (state g.S.Store c.act_on.new.tx.conn.now) = omega (arith, ends.clean) in
    asked_of g.S.Store c.args.conn.now c.transaction-tx.result.conn.now c.act_on.new.tx.conn.now c.transaction-tx.ensures.begun c.schema-schema.ensures.live c.args.summary.now c.args.request.now c.args.witness.now c.act_on.new.witness _
    (rw c.in-Err.is at c.in_ok-answer.ensures.asked) c.act_on.ensures.survives late h counts at

-- ---- a repeat, or a refused request

pub returns-then-not-answer-clause-answered : goal.returns-then-not-answer-clause-answered
returns-then-not-answer-clause-answered g c clean h counts at =
    let ends : CommitsNothing (state g.S.Store c.act_on.new.tx.conn.now) (state g.S.Store c.conn-then-not-answer-1.given.0) = search rules in
    let back : HasCleanDisk (state g.S.Store c.conn-then-not-answer-1.given.0) → IsRolledBack (state g.S.Store c.act_on.new.tx.conn.now) (state g.S.Store c.conn-then-not-answer-1.given.0) = search rules in
    let quiet : c.in-Ok.answer.is_new ≡ false = search rules in
    as_before g.S.Store c.args.conn.now c.transaction-tx.result.conn.now c.act_on.new.tx.conn.now c.transaction-tx.ensures.begun c.schema-schema.ensures.live c.args.summary.now c.act_on.new.summary
    c.args.request.now c.in-Ok.answer (λ clean inside. ok_of _ c.in-Ok.is (c.in_ok-answer.ensures.ok clean inside)) c.act_on.ensures.survives c.conn-then-not-answer-1.given.0 ends quiet back clean h counts at

pub returns-then-not-answer-clause-open : goal.returns-then-not-answer-clause-open
returns-then-not-answer-clause-open g c clean h deed counts at new =
    let ends : CommitsNothing (state g.S.Store c.act_on.new.tx.conn.now) (state g.S.Store c.conn-then-not-answer-1.given.0) = search rules in
    let late : HasCleanDisk (state g.S.Store c.act_on.new.tx.conn.now) = omega (arith, ends.clean) in
    let quiet : c.in-Ok.answer.is_new ≡ false = search rules in
    let says = said_of g.S.Store c.args.conn.now c.transaction-tx.result.conn.now c.act_on.new.tx.conn.now c.transaction-tx.ensures.begun c.schema-schema.ensures.live c.args.summary.now c.act_on.new.summary
    c.args.request.now c.in-Ok.answer (λ clean inside. ok_of _ c.in-Ok.is (c.in_ok-answer.ensures.ok clean inside)) c.act_on.ensures.survives late h counts at in
    absurd (says.adds_none quiet deed new)

pub returns-then-not-answer-clause-seen : goal.returns-then-not-answer-clause-seen
returns-then-not-answer-clause-seen g c clean h deed counts at new =
    let ends : CommitsNothing (state g.S.Store c.act_on.new.tx.conn.now) (state g.S.Store c.conn-then-not-answer-1.given.0) = search rules in
    let late : HasCleanDisk (state g.S.Store c.act_on.new.tx.conn.now) = omega (arith, ends.clean) in
    let quiet : c.in-Ok.answer.is_new ≡ false = search rules in
    let says = said_of g.S.Store c.args.conn.now c.transaction-tx.result.conn.now c.act_on.new.tx.conn.now c.transaction-tx.ensures.begun c.schema-schema.ensures.live c.args.summary.now c.act_on.new.summary
    c.args.request.now c.in-Ok.answer (λ clean inside. ok_of _ c.in-Ok.is (c.in_ok-answer.ensures.ok clean inside)) c.act_on.ensures.survives late h counts at in
    absurd (says.adds_none quiet deed new)

pub returns-then-not-answer-clause-asked : goal.returns-then-not-answer-clause-asked
returns-then-not-answer-clause-asked g c clean h counts at =
    let ends : CommitsNothing (state g.S.Store c.act_on.new.tx.conn.now) (state g.S.Store c.conn-then-not-answer-1.given.0) = search rules in
    let late : HasCleanDisk (state g.S.Store c.act_on.new.tx.conn.now) = omega (arith, ends.clean) in
    asked_of g.S.Store c.args.conn.now c.transaction-tx.result.conn.now c.act_on.new.tx.conn.now c.transaction-tx.ensures.begun c.schema-schema.ensures.live c.args.summary.now c.args.request.now c.args.witness.now c.act_on.new.witness _
    (rw c.in-Ok.is at c.in_ok-answer.ensures.asked) c.act_on.ensures.survives late h counts at

-- ---- a fault

pub returns-in_err-answer-clause-foreign : goal.returns-in_err-answer-clause-foreign
returns-in_err-answer-clause-foreign g c clean foreign h counts at =
    let ends : CommitsNothing (state g.S.Store c.act_on.new.tx.conn.now) (state g.S.Store c.conn-1.given.0) = search rules in
    let was : c.act_on.result ≡ Err Foreign = search rules in
    never_foreign g.S.Store c.args.conn.now c.transaction-tx.result.conn.now c.act_on.new.tx.conn.now c.conn-1.given.0 c.transaction-tx.ensures.begun c.schema-schema.ensures.live c.args.summary.now
    (λ clean inside. c.act_on.ensures.foreign clean inside was) c.act_on.ensures.survives ends clean h counts at

pub returns-in_err-answer-clause-asked : goal.returns-in_err-answer-clause-asked
returns-in_err-answer-clause-asked g c clean h counts at =
    let ends : CommitsNothing (state g.S.Store c.act_on.new.tx.conn.now) (state g.S.Store c.conn-1.given.0) = search rules in
    let late : HasCleanDisk (state g.S.Store c.act_on.new.tx.conn.now) = omega (arith, ends.clean) in
    let is : c.from_residual.result ≡ Err c.in_err-answer.field-0.0 = search rules in
    rw is (asked_of g.S.Store c.args.conn.now c.transaction-tx.result.conn.now c.act_on.new.tx.conn.now c.transaction-tx.ensures.begun c.schema-schema.ensures.live c.args.summary.now c.args.request.now c.args.witness.now c.act_on.new.witness _
    c.in_err-answer.ensures.asked c.act_on.ensures.survives late h counts at)
