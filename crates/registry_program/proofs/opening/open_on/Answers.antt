use Rattle.std.proofs.Common.{sym, subst, ◌∙◌, arith}
use Rattle.std.proofs.Math.Logic.{∥∥₁_map, ∥∥₁_elim}
use Rattle.sqlite.specs.State.{HasCleanDisk}
use Rattle.sqlite.specs.Files.{file_state}
use Rattle.registry_tables.specs.Rows.{Rows}
use Rattle.registry_store.specs.Promise.{IsFreshAt}
use Rattle.registry_store.proofs.CrashLemmas.{later_from}
use Rattle.registry_store.proofs.OpeningLemmas.{either_legal}
use Rattle.registry_program.proofs.OpeningLemmas.{foreign_fault, of_opening, shows_held}
use Rattle.registry_program.proofs.opening.open_on.Goals as goal

pub returns-in-Ok-clause-ok : goal.returns-in-Ok-clause-ok
returns-in-Ok-clause-ok g c files opened =
    let conn = c.args.conn in
    let was : HasCleanDisk (file_state c.in-Ok.registry.conn) → HasCleanDisk (file_state conn) = λ clean. omega (arith, c.in-Ok.ensures.survives.clean, clean) in
    record {
      is_new = c.in-Ok.ensures.is_new;
      honest = λ clean. (opened (was clean)).1.honest;
      represents = λ from h next legal legal_next holds clean.
          let it = opened (was clean) in
          ∥∥₁_map (holds it.1.honest) (λ found.
          let fresh : IsFreshAt found.4 (file_state conn) found.2 = λ _. (it.0.0.is_open, it.0.0.clean, subst (λ db. Rows found.4 db found.2) (sym (it.1.holds found.0 found.1)) found.6) in
          (found.2, found.3, c.in-Ok.ensures.fresh found.4 found.2 (either_legal h next found.2 legal legal_next found.3) fresh clean));
      conn = conn;
      connected = opened;
      known = c.in-Ok.ensures.known;
      survives = c.in-Ok.ensures.survives;
      untouched = c.in-Ok.ensures.untouched;
    }

pub returns-in-Err-clause-err : goal.returns-in-Err-clause-err
returns-in-Err-clause-err g c files opened =
    let conn = c.args.conn in
    let close = c.leave_store.ensures in (
      rw c.failure_of.ensures (of_opening c.in-Err.fault c.in-Err.ensures.kind),
      record {
        conn = conn;
        connected = opened;
        last = c.in-Err.conn;
        survives = c.in-Err.ensures.survives;
        untouched = c.in-Err.ensures.untouched;
        closed = close.closed;
        holds = λ from h next legal legal_next holds honest.
            let clean = close.clean honest in
            let was : HasCleanDisk (file_state conn) = omega (arith, c.in-Err.ensures.survives.clean, clean) in
            let it = opened was in
            let left = ∥∥₁_map (holds it.1.honest) (λ found.
            let fresh : IsFreshAt found.4 (file_state conn) found.2 = λ _. (it.0.0.is_open, it.0.0.clean, subst (λ db. Rows found.4 db found.2) (sym (it.1.holds found.0 found.1)) found.6) in
            later_from from found.4 (file_state c.in-Err.conn) h next found.2 found.3 found.5 (c.in-Err.ensures.leaves_fresh found.4 found.2 (either_legal h next found.2 legal legal_next found.3) fresh clean)) in
            record {
              now = ∥∥₁_elim left squash₁ (λ all. (close.holds from h next (λ _. all) honest).now);
              crash = λ image may. ∥∥₁_elim left squash₁ (λ all. (close.holds from h next (λ _. all) honest).crash image may);
            };
      },
    )

pub returns-in-Err-clause-foreign : goal.returns-in-Err-clause-foreign
returns-in-Err-clause-foreign g c files opened told honest version db h held legal rows =
    let conn = c.args.conn in
    let clean = c.leave_store.ensures.clean honest in
    let was : HasCleanDisk (file_state conn) = omega (arith, c.in-Err.ensures.survives.clean, clean) in
    c.in-Err.ensures.foreign clean (foreign_fault c.in-Err.fault (sym c.failure_of.ensures ∙ told)) version h legal
    (shows_held g.D.Disk files conn opened was version db h held rows)
