use Rattle.std.proofs.Common.{refl, sym, ◌∙◌}
use Rattle.registry_rules.specs.Verdict.{verdict}
use Rattle.registry_store.specs.Promise.{state_of}
use Rattle.shared_registry.proofs.LineLemmas.{goes_on, leads_nowhere_else, left, stays, unexpected}
use Rattle.shared_registry.proofs.expecting.act_if_expected.Goals as goal

pub returns-then-is_some-clause-goes_on : goal.returns-then-is_some-clause-goes_on
returns-then-is_some-clause-goes_on g c h stands clean =
    let done = c.in-Ok.ensures.answered h stands clean in
    goes_on h c.args.request.now _ c.act_before.new.witness refl c.act_before.new.self (c.in-Ok.ensures.asked h stands clean) (sym c.is_some.ensures ∙ c.if-is_some.true) done.1

pub returns-in-Ok-clause-stopped : goal.returns-in-Ok-clause-stopped
returns-in-Ok-clause-stopped g c h stands clean =
    let done = c.in-Ok.ensures.answered h stands clean in
    let none = sym c.is_some.ensures ∙ c.if-is_some.false in
    let r = c.args.request.now in (
      refl,
      stays h r _ c.act_before.new.witness refl c.act_before.new.self (verdict h r) refl (λ deed is. c.in-Ok.ensures.acknowledged h deed stands clean is) none done.1,
      leads_nowhere_else h r _ c.act_before.new.witness refl (λ deed is. c.in-Ok.ensures.acknowledged h deed stands clean is) none,
    )

pub returns-in-Err-Fault-clause-stopped : goal.returns-in-Err-Fault-clause-stopped
returns-in-Err-Fault-clause-stopped g c h stands clean = (
  rw c.in-Err-Fault.field-0-is (rw c.in-Err-Fault.field-0-is at (c.in-Err-Fault.ensures.keeps_fault stands.not_poisoned)),
  left h c.args.request.now _ c.act_before.new.witness refl (state_of c.act_before.new.self) (rw c.in-Err-Fault.field-0-is at (c.in-Err-Fault.ensures.asked h stands clean))
      (c.in-Err-Fault.ensures.witnessed h stands clean),
)

pub returns-clause-stopped : goal.returns-clause-stopped
returns-clause-stopped g c h stands clean =
    let missed = rw c.in-Err-Unwitnessed.field-0-is at c.in-Err-Unwitnessed.ensures.missed in
    let kept = rw c.in-Err-Unwitnessed.field-0-is at c.in-Err-Unwitnessed.ensures.untouched in
    let asked = rw c.in-Err-Unwitnessed.field-0-is at (c.in-Err-Unwitnessed.ensures.asked h stands clean) in
    rw (c.stop_for.ensures, c.in-Err-Unwitnessed.why-is)
    (unexpected h c.args.request.now _ c.act_before.new.witness refl c.act_before.new.self c.args.n c.in-Err-Unwitnessed.why asked missed.0 missed.1 (kept.stays h stands))
