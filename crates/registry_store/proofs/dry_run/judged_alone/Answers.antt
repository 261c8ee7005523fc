use Rattle.std.proofs.Common.{◌≡◌, rules}
use Rattle.registry_rules.specs.TotalsOf.{AreTotalsOf}
use Rattle.registry_rules.specs.Verdict.{verdict}
use Rattle.registry_tables.specs.Finds.{ReadsHistory}
use Rattle.registry_tables.proofs.CallLemmas.{look_up}
use Rattle.registry_store.proofs.dry_run.judged_alone.Goals as goal

pub returns-clause-looked_up : goal.returns-clause-looked_up
returns-clause-looked_up g c =
    let same : c.rollback.new.self.0 ≡ c.conn-1.given.0 = search rules in
    let reads : ReadsHistory g.S.Store c.transaction-tx.result.conn c.judged-verdict.new.tx.conn c.judged-verdict.result (λ h found. AreTotalsOf h c.args.totals.now → found ≡ verdict h c.args.request.now) =
    record { same_reference = c.judged-verdict.ensures.same_reference; found = c.judged-verdict.ensures.found; survives = c.judged-verdict.ensures.survives } in
    look_up c.args.conn.now c.transaction-tx.ensures.begun c.schema-schema.ensures.live reads c.rollback.ensures.survives c.rollback.ensures.undone same
