use Rattle.std.proofs.Common.{inl, inr, refl, subst, sym}
use Rattle.std.proofs.lemmas.Result.{IfOk-weaker}
use Rattle.sqlite.specs.State.{HasCleanDisk}
use Rattle.sqlite.specs.Files.{file_state}
use Rattle.registry_tables.specs.Rows.{newest}
use Rattle.registry_store.specs.Promise.{Leaves, connection_of}
use Rattle.registry_store.specs.Files.{AreClosed, IsEither}
use Rattle.registry_store.proofs.CrashLemmas.{in_newest}
use Rattle.registry_reopening.proofs.crashing.close_and_open.Goals as goal

pub returns-in-None-clause-represents : goal.returns-in-None-clause-represents
returns-in-None-clause-represents g c h next legal legal_next leaves =
    let before = subst (λ x. HasCleanDisk (file_state x) → Leaves newest (file_state x) (IsEither h next)) (sym c.into_connection.ensures) leaves in
    c.open_files.ensures.represents newest h next legal legal_next (λ honest. (c.close_files-files.ensures.holds c.in-None.is newest h next (in_newest (file_state c.into_connection.result) (IsEither h next) before) honest).now)

pub returns-in-None-clause-holds : goal.returns-in-None-clause-holds
returns-in-None-clause-holds g c h next legal legal_next leaves =
    let before = subst (λ x. HasCleanDisk (file_state x) → Leaves newest (file_state x) (IsEither h next)) (sym c.into_connection.ensures) leaves in
    c.open_files.ensures.holds newest h next legal legal_next (λ honest. (c.close_files-files.ensures.holds c.in-None.is newest h next (in_newest (file_state c.into_connection.result) (IsEither h next) before) honest).now)

pub returns-in-Some-clause-holds : goal.returns-in-Some-clause-holds
returns-in-Some-clause-holds g c h next legal legal_next leaves =
    let conn = connection_of c.args.registry in
    inr (conn, in_newest (file_state conn) (IsEither h next) leaves, subst (λ x. AreClosed x c.close_files-files.result.files) c.into_connection.ensures c.close_files-files.ensures.closed)

pub returns-in-None-clause-clean : goal.returns-in-None-clause-clean
returns-in-None-clause-clean g c =
    IfOk-weaker c.open_files.result _ _ (λ x honest clean. subst (λ y. HasCleanDisk (file_state y)) c.into_connection.ensures (c.close_files-files.ensures.copied c.in-None.is (honest clean)).was_clean)
    c.open_files.ensures.honest

pub returns-in-None-clause-opens : goal.returns-in-None-clause-opens
returns-in-None-clause-opens g c =
    (c.close_files-files.result.files, subst (λ x. AreClosed x c.close_files-files.result.files) c.into_connection.ensures c.close_files-files.ensures.closed, c.open_files.ensures.opens)

pub returns-in-Some-clause-opens : goal.returns-in-Some-clause-opens
returns-in-Some-clause-opens g c =
    (c.close_files-files.result.files, subst (λ x. AreClosed x c.close_files-files.result.files) c.into_connection.ensures c.close_files-files.ensures.closed, inl refl)
