use Rattle.std.proofs.Common.{inl, inr}
use Rattle.std.proofs.Math.Logic.{∥∥₁_elim}
use Rattle.sqlite.specs.Files.{image_of}
use Rattle.registry_reopening.proofs.opening.open_files.Goals as goal

pub returns-in-Ok-open_on-clause-represents : goal.returns-in-Ok-open_on-clause-represents
returns-in-Ok-open_on-clause-represents g c from h next legal legal_next holds =
    let e = c.in-Ok.ensures in
    c.in-Ok-open_on.ensures.represents from (image_of g.D.Disk c.args.files) h next legal legal_next
    (λ clean. (e.opened clean, record { holds = (e.found clean).holds; reads = (e.found clean).reads }, holds (e.found clean).honest))

pub returns-in-Err-open_on-clause-holds : goal.returns-in-Err-open_on-clause-holds
returns-in-Err-open_on-clause-holds g c from h next legal legal_next holds honest =
    let e = c.in-Ok.ensures in
    let leaves = c.in-Err-open_on.ensures.leaves from (image_of g.D.Disk c.args.files) h next legal legal_next
    (λ clean. (e.opened clean, record { holds = (e.found clean).holds; reads = (e.found clean).reads }, holds (e.found clean).honest)) in
    let close = c.leave_store.ensures in
    let left = leaves (close.clean honest) in
    record {
      now = ∥∥₁_elim left squash₁ (λ all. (close.holds from h next (λ _. all) honest).now);
      crash = λ image may. ∥∥₁_elim left squash₁ (λ all. (close.holds from h next (λ _. all) honest).crash image may);
    }

pub returns-in-Err-clause-holds : goal.returns-in-Err-clause-holds
returns-in-Err-clause-holds g c from h next legal legal_next holds = inl (c.args.files, holds, (c.in-Err.left, c.into_files.ensures, c.in-Err.ensures.unharmed))

-- ---- what was found, and what is left

pub returns-in-Ok-open_on-clause-opens : goal.returns-in-Ok-open_on-clause-opens
returns-in-Ok-open_on-clause-opens g c =
    let e = c.in-Ok.ensures in
    let it = c.in-Ok-open_on.ensures in
    record {
      is_new = it.is_new;
      honest = λ clean. (e.found (it.clean clean)).honest;
      conn = c.in-Ok.conn;
      connects = record { fresh = e.fresh; shows = λ clean. (e.opened clean, e.found clean) };
      known = it.known;
      survives = it.survives;
      untouched = it.untouched;
    }

pub returns-in-Err-open_on-clause-opens : goal.returns-in-Err-open_on-clause-opens
returns-in-Err-open_on-clause-opens g c =
    let e = c.in-Ok.ensures in
    let it = c.in-Err-open_on.ensures in
    inr (record {
      conn = c.in-Ok.conn;
      connects = record { fresh = e.fresh; shows = λ clean. (e.opened clean, e.found clean) };
      last = c.in-Err-open_on.conn;
      survives = it.survives;
      untouched = it.untouched;
      closed = c.leave_store.ensures.closed;
    })

pub returns-in-Err-open_on-clause-returned : goal.returns-in-Err-open_on-clause-returned
returns-in-Err-open_on-clause-returned g c honest =
    (c.in-Ok.ensures.found (c.in-Err-open_on.ensures.returned (c.leave_store.ensures.clean honest))).honest

pub returns-in-Err-clause-opens : goal.returns-in-Err-clause-opens
returns-in-Err-clause-opens g c = inr (c.in-Err.left, c.into_files.ensures, c.in-Err.ensures.unharmed)
