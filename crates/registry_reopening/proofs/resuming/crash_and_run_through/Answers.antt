use Rattle.std.proofs.Common.{◌≡◌, inl, inr, refl, sym, subst}
use Rattle.std.proofs.Math.Logic.{∥∥₁_elim}
use Rattle.registry_store.specs.Promise.{Represents}
use Rattle.registry_reopening.proofs.resuming.crash_and_run_through.Goals as goal

pub returns-in-Ok-run_through-clause-clean : goal.returns-in-Ok-run_through-clause-clean
returns-in-Ok-run_through-clause-clean g c clean = c.leave_store.ensures.clean (c.in-Ok.ensures.honest (c.in-Ok-run_through.ensures.clean clean))

pub returns-in-Ok-run_through-clause-ended : goal.returns-in-Ok-run_through-clause-ended
returns-in-Ok-run_through-clause-ended g c from h legal leaves clean =
    ∥∥₁_elim (c.in-Ok.ensures.represents from h h legal legal (c.leave_store.ensures.holds from h h leaves) (c.in-Ok-run_through.ensures.clean clean)) squash₁
    (λ it. c.in-Ok-run_through.ensures.ended h (subst (Represents c.in-Ok.registry) (elim it.1 [ inl e ↦ e | inr e ↦ e ]) it.2) clean)
