use Rattle.std.proofs.Common.{sym, subst, arith}
use Rattle.std.proofs.Math.Logic.{∥∥₁_map}
use Rattle.sqlite.specs.State.{HasCleanDisk}
use Rattle.sqlite.specs.Files.{file_state}
use Rattle.registry_tables.specs.Rows.{Rows}
use Rattle.registry_store.specs.Promise.{IsFreshAt}
use Rattle.registry_store.proofs.CrashLemmas.{later_from}
use Rattle.registry_store.proofs.OpeningLemmas.{either_legal}
use Rattle.registry_reopening.proofs.opening.open_on.Goals as goal

pub returns-in-Ok-clause-represents : goal.returns-in-Ok-clause-represents
returns-in-Ok-clause-represents g c from image h next legal legal_next opened clean =
    let conn = c.args.conn in
    let was : HasCleanDisk (file_state conn) = omega (arith, c.in-Ok.ensures.survives.clean) in
    let it = opened was in
    ∥∥₁_map it.2 (λ found.
    let fresh : IsFreshAt found.4 (file_state conn) found.2 = λ _. (it.0.0.is_open, it.0.0.clean, subst (λ db. Rows found.4 db found.2) (sym (it.1.holds found.0 found.1)) found.6) in
    (found.2, found.3, c.in-Ok.ensures.fresh found.4 found.2 (either_legal h next found.2 legal legal_next found.3) fresh clean))

pub returns-in-Err-clause-leaves : goal.returns-in-Err-clause-leaves
returns-in-Err-clause-leaves g c from image h next legal legal_next opened clean =
    let conn = c.args.conn in
    let was : HasCleanDisk (file_state conn) = omega (arith, c.in-Err.ensures.survives.clean) in
    let it = opened was in
    ∥∥₁_map it.2 (λ found.
    let fresh : IsFreshAt found.4 (file_state conn) found.2 = λ _. (it.0.0.is_open, it.0.0.clean, subst (λ db. Rows found.4 db found.2) (sym (it.1.holds found.0 found.1)) found.6) in
    later_from from found.4 (file_state c.in-Err.conn) h next found.2 found.3 found.5 (c.in-Err.ensures.leaves_fresh found.4 found.2 (either_legal h next found.2 legal legal_next found.3) fresh clean))
