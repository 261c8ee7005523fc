use Rattle.std.proofs.Common.{sym, ◌∙◌}
use Rattle.registry_store.specs.Witness.{WasSeen}
use Rattle.registry_store.proofs.IsQueryLemmas.{not_met}
use Rattle.registry_store.proofs.TransactionLemmas.{leaves_one}
use Rattle.registry_store.proofs.registry.Registry.act_before.Goals as goal

pub returns-in-Ok-Ok-clause-witnessed : goal.returns-in-Ok-Ok-clause-witnessed
returns-in-Ok-Ok-clause-witnessed g c h stands clean = leaves_one _ _ _ _ (WasSeen g.W.Witness.saw c.args.witness.now c.attempt.new.witness c.args.request.now) c.attempt.ensures.survives h stands.legal_with stands.at clean

pub returns-in-Ok-Err-clause-witnessed : goal.returns-in-Ok-Err-clause-witnessed
returns-in-Ok-Err-clause-witnessed g c h stands clean = leaves_one _ _ _ _ (WasSeen g.W.Witness.saw c.args.witness.now c.attempt.new.witness c.args.request.now) c.attempt.ensures.survives h stands.legal_with stands.at clean

pub returns-in-Err-clause-witnessed : goal.returns-in-Err-clause-witnessed
returns-in-Err-clause-witnessed g c h stands clean = leaves_one _ _ _ _ (WasSeen g.W.Witness.saw c.args.witness.now c.attempt.new.witness c.args.request.now) c.attempt.ensures.survives h stands.legal_with stands.at clean

pub returns-in-Err-clause-notes : goal.returns-in-Err-clause-notes
returns-in-Err-clause-notes g c = sym (not_met c.args.self.now c.from-fault.result (sym c.is_poisoned.ensures ∙ c.if-is_poisoned.false))

pub returns-in-Ok-Ok-clause-asked : goal.returns-in-Ok-Ok-clause-asked
returns-in-Ok-Ok-clause-asked g c h stands clean = rw (c.in-Ok-Ok.is, c.in-Ok-Ok.field-0-is) at (c.attempt.ensures.asked clean h stands.legal_with stands.at)
