use Rattle.std.proofs.Common.{subst, sym}
use Rattle.sqlite.specs.State.{HasCleanDisk}
use Rattle.sqlite.specs.Files.{file_state}
use Rattle.registry_tables.specs.Rows.{newest}
use Rattle.registry_store.specs.Promise.{Leaves}
use Rattle.registry_store.specs.Files.{AreClosed, IsEither}
use Rattle.registry_store.proofs.CrashLemmas.{in_newest}
use Rattle.registry_reopening.proofs.opening.leave.Goals as goal

pub returns-clause-clean : goal.returns-clause-clean
returns-clause-clean g c honest = subst (λ x. HasCleanDisk (file_state x)) c.into_connection.ensures (c.leave_store.ensures.clean honest)

pub returns-clause-holds : goal.returns-clause-holds
returns-clause-holds g c h next leaves honest =
    c.leave_store.ensures.holds newest h next (in_newest (file_state c.into_connection.result) (IsEither h next) (subst (λ x. HasCleanDisk (file_state x) → Leaves newest (file_state x) (IsEither h next)) (sym c.into_connection.ensures) leaves)) honest

pub returns-clause-closed : goal.returns-clause-closed
returns-clause-closed g c = subst (λ x. AreClosed x c.leave_store.result) c.into_connection.ensures c.leave_store.ensures.closed
