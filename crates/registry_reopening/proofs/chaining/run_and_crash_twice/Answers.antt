use Rattle.std.proofs.Common.{inl, inr}
use Rattle.std.proofs.Math.Logic.{∥∥₁_elim, ∥∥₁_map}
use Rattle.std.proofs.lemmas.Result.{err_from_is_err_and}
use Rattle.registry_reopening.proofs.chaining.run_and_crash_twice.Goals as goal

pub returns-clause-clean : goal.returns-clause-clean
returns-clause-clean g c clean = c.in_ok-before.ensures.clean (c.in_ok-after.ensures.clean clean)

pub returns-clause-sound : goal.returns-clause-sound
returns-clause-sound g c = c.in_ok-after.ensures.sound c.in_ok-before.ensures.is_new.sound

pub returns-clause-left : goal.returns-clause-left
returns-clause-left g c h stands clean =
    ∥∥₁_elim (c.in_ok-before.ensures.left h stands (c.in_ok-after.ensures.clean clean)) squash₁ (λ one.
    ∥∥₁_map (c.in_ok-after.ensures.left one.0 one.2 clean) (λ two. (one.0, one.1, two.0, two.1, two.2)))

pub returns-in_err-before-clause-holds : goal.returns-in_err-before-clause-holds
returns-in_err-before-clause-holds g c =
    let p = err_from_is_err_and c.from_residual.result c.from_residual.ensures.1 in
    rw (p.1, p.2) (inl c.in_err-before.ensures.holds)

pub returns-in_err-after-clause-holds : goal.returns-in_err-after-clause-holds
returns-in_err-after-clause-holds g c =
    let p = err_from_is_err_and c.from_residual-in_err-after.result c.from_residual-in_err-after.ensures.1 in
    let one = c.in_ok-before in
    rw (p.1, p.2) (inr (record { run = one.before; middle = one.middle; is_new = one.ensures.is_new; leads = one.ensures.left; leaves = c.in_err-after.ensures.holds }))
