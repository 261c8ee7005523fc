use Rattle.std.proofs.Common.{◌∙◌, inl, inr, subst}
use Rattle.registry_rules.proofs.RunLemmas.{kept_for_good}
use Rattle.registry_tables.specs.Rows.{newest}
use Rattle.registry_store.specs.Promise.{Represents, state_of}
use Rattle.registry_store.proofs.RunLemmas.{leaves_weaker}
use Rattle.registry_store.proofs.registry.Registry.act.Goals as goal

pub returns-in-Ok-clause-repeated : goal.returns-in-Ok-clause-repeated
returns-in-Ok-clause-repeated g c h deed between new stands clean =
    let law = kept_for_good h c.args.request.now deed between new in
    let it = c.in-Ok.ensures.answered _ stands clean in
    (it.0 ∙ law.1, subst (Represents _) law.0 it.1)

pub returns-in-Ok-clause-crash : goal.returns-in-Ok-clause-crash
returns-in-Ok-clause-crash g c h stands clean =
    leaves_weaker newest (state_of c.act_before.new.self) _ _ (λ x. elim [ inl same ↦ inl same | inr one ↦ inr one.0 ]) (c.act_before.ensures.witnessed h stands clean)

pub returns-in-Err-Fault-clause-crash : goal.returns-in-Err-Fault-clause-crash
returns-in-Err-Fault-clause-crash g c h stands clean =
    leaves_weaker newest (state_of c.act_before.new.self) _ _ (λ x. elim [ inl same ↦ inl same | inr one ↦ inr one.0 ]) (c.act_before.ensures.witnessed h stands clean)

pub returns-in-Err-Unwitnessed : goal.returns-in-Err-Unwitnessed
returns-in-Err-Unwitnessed g c = let never = c.act_before.ensures.missed in let missed = rw (c.in-Err-Unwitnessed.is, c.in-Err-Unwitnessed.field-0-is) at never in absurd missed.1
