-- The verdict by the key and the caller, or by all facts.
use Rattle.std.proofs.Common.{◌≡◌, ◌∙◌}
use Rattle.sqlite.specs.Held.{state}
use Rattle.registry_rules.specs.TotalsOf.{AreTotalsOf}
use Rattle.registry_rules.specs.History.{History}
use Rattle.registry_rules.specs.Verdict.{verdict, kept_under}
use Rattle.registry_rules.specs.declared.verdict.Verdict.{Verdict}
use Rattle.registry_schema.specs.declared.fault.TableFault.TheVariants.{NoMemory}
use Rattle.registry_tables.proofs.FindLemmas.{finds_ok, short}
use Rattle.registry_tables.proofs.ReadLemmas.{then_open, reads_as}
use Rattle.registry_store.proofs.attempt.judged.Goals as goal

pub returns-in-Ok-Some-clause-found : goal.returns-in-Ok-Some-clause-found
returns-in-Ok-Some-clause-found g c clean inside =
    let r = c.args.request.now in
    finds_ok (state g.S.Store c.args.tx.now.conn.now) (state g.S.Store c.kept_reply.new.tx.conn.now) (λ h kept. kept ≡ kept_under h r.caller r.key) (λ h found. AreTotalsOf h c.args.totals.now → found ≡ verdict h r)
    c.in_ok-kept.kept c.in-Ok-Some.verdict (λ h legal known are. rw c.in-Ok-Some.field-0-is at (c.in-Ok-Some.ensures.verdict h (c.founding.ensures h are) (c.as_ref.ensures.value ∙ known))) (c.in_ok-kept.ensures.reads.found clean inside)

pub returns-in-Ok-None-clause-found : goal.returns-in-Ok-None-clause-found
returns-in-Ok-None-clause-found g c clean inside =
    (reads_as (λ h found legal it are. it.1 it.0 are) (then_open c.in_ok-kept.ensures.reads c.judged_by_facts.ensures.reads)).found clean inside

pub returns-in-Err-clause-found : goal.returns-in-Err-clause-found
returns-in-Err-clause-found g c clean inside =
    short (state g.S.Store c.args.tx.now.conn.now) (state g.S.Store c.kept_reply.new.tx.conn.now) (λ (h : History) (found : Verdict). AreTotalsOf h c.args.totals.now → found ≡ verdict h c.args.request.now) NoMemory
    (λ never. absurd cc) (c.in_ok-kept.ensures.reads.found clean inside).0
