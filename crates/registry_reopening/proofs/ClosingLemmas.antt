-- Closing a store after request lines were acted on.
use Rattle.std.proofs.Common.{◌≡◌, ◌⊎◌, inl, inr, refl}
use Rattle.std.specs.Prelude.{◌≢◌}
use Rattle.sqlite.specs.declared.error.Error.{Error}
use Rattle.byte_streams.specs.declared.streams.Sink as sink
use Rattle.registry_commands.specs.declared.status.ExitStatus.{ExitStatus}
use Rattle.registry_commands.specs.declared.status.ExitStatus.TheVariants.{Success, Failed, Rejected}
use Rattle.registry_commands.specs.Ends.{output_of}
use Rattle.registry_commands.specs.Failures.{IsOfClosing, IsOfStore, PrintsFailure}
use Rattle.registry_reopening.specs.Applied.{EndsClosing}
use Rattle.registry_commands.proofs.FailureLemmas.{of_store, tells_more}

-- how the status and the error output end after a store is closed
pub closing_ends : {E : Type 0} (s : sink.Ghosts E) (May : Error → Type 0) (errors errors_new : E) (acted status : ExitStatus)
    → (acted ≢ Success → (status ≡ acted) × (errors_new ≡ errors))
    → (acted ≡ Success → ((status ≡ Success) × (errors_new ≡ errors)) ⊎ ((status ≡ Failed) × PrintsFailure (IsOfClosing May) (output_of s errors errors_new)))
    → EndsClosing s acted errors errors_new status
closing_ends s May errors errors_new Success status kept well = elim (well refl) [
  | inl same ↦ inl same
  | inr failed ↦ inr (refl, failed.0, tells_more (IsOfClosing May) IsOfStore (output_of s errors errors_new) (of_store May) failed.1)
]
closing_ends s May errors errors_new Failed status kept well = inl (kept (λ e. absurd cc))
closing_ends s May errors errors_new Rejected status kept well = inl (kept (λ e. absurd cc))
