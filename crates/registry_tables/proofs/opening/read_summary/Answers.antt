use Rattle.std.proofs.Common.{◌≡◌, OnOk, subst, rules}
use Rattle.sqlite.specs.State.{HasCleanDisk}
use Rattle.sqlite.specs.Held.{state}
use Rattle.registry_tables.specs.Version.{SaysNewest}
use Rattle.registry_tables.proofs.NewestLemmas.{newest_all}
use Rattle.registry_tables.proofs.CallLemmas.{look_up}
use Rattle.registry_tables.proofs.opening.read_summary.Goals as goal

pub returns-clause-looked_up : goal.returns-clause-looked_up
returns-clause-looked_up g c =
    let same : c.rollback.new.self.0 ≡ c.conn-1.given.0 = search rules in
    look_up c.args.conn.now c.begin-tx.ensures.begun c.begin-tx.ensures.live c.summary_in-summary.ensures.reads c.rollback.ensures.survives c.rollback.ensures.undone same

pub returns-clause-newest : goal.returns-clause-newest
returns-clause-newest g c =
    let old = c.args.conn.now in
    let begun = c.begin-tx.result.conn.now in
    let mid = c.summary_in-summary.new.tx.conn.now in
    let end = c.rollback.new.self.0 in
    let same : end ≡ c.conn-1.given.0 = search rules in
    subst (λ e. HasCleanDisk (state g.S.Store e) → OnOk c.summary_in-summary.result (SaysNewest (state g.S.Store old).now)) same
    (newest_all g.S.Store old begun mid end c.begin-tx.ensures.begun c.summary_in-summary.result c.summary_in-summary.ensures.newest c.rollback.ensures.survives)
