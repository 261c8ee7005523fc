use Rattle.std.proofs.Common.{IsTrue, subst, arith}
use Rattle.std.proofs.Math.Logic.{∥∥₁_map}
use Rattle.sqlite.specs.FileStore.{view, recovers}
use Rattle.sqlite.specs.State.{HasCleanDisk}
use Rattle.sqlite.specs.Files.{file_state}
use Rattle.sqlite.specs.Held.{AreDatabases}
use Rattle.sqlite.proofs.Theorems.{opens_again}
use Rattle.registry_tables.specs.Rows.{newest}
use Rattle.registry_tables.proofs.RowsLemmas.{rows_sound}
use Rattle.registry_store.specs.Files.{IsEither}
use Rattle.registry_store.specs.Promise.{connection_of}
use Rattle.registry_store.proofs.CrashLemmas.{after_stop, in_newest, newest_is_last}
use Rattle.registry_reopening.proofs.opening.abandon.Goals as goal

pub returns-clause-holds : goal.returns-clause-holds
returns-clause-holds g c h next leaves clean left may =
    let it = (connection_of c.args.registry).store in
    let e = c.into_store.ensures in
    let numbered : IsTrue (view it).is_numbered =
    subst (λ x. IsTrue (view x.store).is_numbered) c.into_connection.ensures (subst IsTrue e.undone.numbered (e.numbered clean)) in
    let databases : AreDatabases (recovers it) = λ db after. let x = leaves db after in rows_sound newest db x.0 x.2 in
    ∥∥₁_map (opens_again it numbered databases left may) (λ found. let x = leaves found.0 found.1 in (found.0, found.2, x.0, x.1, newest, newest_is_last, x.2))

pub returns-clause-left : goal.returns-clause-left
returns-clause-left g c h next leaves clean left may =
    let e = c.into_store.ensures in
    let inner : HasCleanDisk (file_state c.into_connection.result) = omega (arith, clean, e.quiet.clean) in
    let was = subst (λ x. HasCleanDisk (file_state x)) c.into_connection.ensures inner in
    after_stop (connection_of c.args.registry).store c.into_store.result newest h next
    (λ db after. subst (λ x. recovers x.store db) c.into_connection.ensures (e.quiet.outcomes db after)) (in_newest (file_state (connection_of c.args.registry)) (IsEither h next) leaves was) (e.numbered clean) (e.sound clean) left may
