use Rattle.std.proofs.Common.{◌≡◌, IsTrue, sym, subst, ◌∙◌, arith, rules}
use Rattle.std.proofs.lemmas.Result.{on_ok_weaker}
use Rattle.sqlite_trees.specs.Tree.{Trees}
use Rattle.sqlite.specs.State.{HasCleanDisk, Survives}
use Rattle.sqlite.specs.Held.{state}
use Rattle.sqlite.proofs.StateLemmas.{survives_then}
use Rattle.sqlite.proofs.Callers.{survives_begin}
use Rattle.table_laws.specs.Making.{no_schema}
use Rattle.registry_rules.specs.History.{founded}
use Rattle.registry_tables.specs.Rows.{newest, Rows}
use Rattle.registry_tables.proofs.CreateLemmas.{founding_shown}
use Rattle.registry_tables.proofs.ReadLemmas.{quiet_then}
use Rattle.registry_tables.proofs.creation.create_in_empty.Goals as goal

pub returns-clause-made : goal.returns-clause-made
returns-clause-made g c clean =
    let old = c.args.conn.now in
    let f = c.args.founding.now in
    let end = c.commit.new.tx.0 in
    let same : end ≡ c.conn-2-1.given.0 = search rules in
    let late : HasCleanDisk (state g.S.Store end) = search rules in
    let fine : HasCleanDisk (state g.S.Store c.write_founding.new.tx.conn.now) = omega (arith, c.commit.ensures.survives.clean) in
    let p = founding_shown old c.begin-tx.result.conn.now f c.begin-tx.ensures.begun c.requires.empty c.begin-tx.ensures.live c.in_ok-create_tables.ensures.writes.done c.in_ok-write_founding.ensures.writes c.in_ok-write_founding.ensures.valid fine in
    on_ok_weaker c.commit.result (λ done. subst (λ h. IsTrue (state g.S.Store old).is_open × ((state g.S.Store old).now.schema ≡ no_schema) × IsTrue (state g.S.Store h).is_open × ((state g.S.Store h).now ≡ (state g.S.Store h).committed) × Rows newest (state g.S.Store h).committed.trees (founded f)) same (p.0, p.1, done.is_open, done.now_is ∙ sym done.committed_is, subst (λ d. Rows newest d.trees (founded f)) (sym done.committed_is) p.2)) (c.commit.ensures.ok late)

pub returns-clause-survives : goal.returns-clause-survives
returns-clause-survives g c =
    let old = c.args.conn.now in
    let f = c.args.founding.now in
    let last = state g.S.Store c.write_founding.new.tx.conn.now in
    let end = c.commit.new.tx.0 in
    let same : end ≡ c.conn-2-1.given.0 = search rules in
    let P = λ (db : Trees). IsTrue (state g.S.Store old).is_open × ((state g.S.Store old).now.schema ≡ no_schema) × Rows newest db (founded f) in
    let inside = quiet_then (state g.S.Store c.begin-tx.result.conn.now) (state g.S.Store c.create_tables.new.tx.conn.now) last c.create_tables.ensures.writes.survives c.write_founding.ensures.writes.survives in
    let whole = survives_then (state g.S.Store old) last (state g.S.Store end) _ _ P (λ _ db none. absurd none)
    (λ clean db there. (
    let fine : HasCleanDisk last = omega (arith, c.commit.ensures.survives.clean) in
    subst P (sym there) (founding_shown old c.begin-tx.result.conn.now f c.begin-tx.ensures.begun c.requires.empty c.begin-tx.ensures.live c.in_ok-create_tables.ensures.writes.done c.in_ok-write_founding.ensures.writes c.in_ok-write_founding.ensures.valid fine)))
    (survives_begin g.S.Store old last _ (rw c.begin-tx.ensures.begun at inside)) c.commit.ensures.survives in
    subst (λ h. Survives (state g.S.Store old) (state g.S.Store h) P) same whole
