use Rattle.registry_desk.specs.Server.{fault_in_server}
use Rattle.registry_tables.specs.Rows.{newest}
use Rattle.registry_reopening.specs.Opening.{StillHolds}
use Rattle.registry_reopening.proofs.ServedLemmas.{if_reopened}
use Rattle.registry_reopening.proofs.serving.serve_and_open.Goals as goal

pub returns-in-Ok : goal.returns-in-Ok
returns-in-Ok g c =
    let run = c.serve_all-served in
    let it = run.ensures.served in
    let opening = c.close_and_open in (
      it.0,
      it.1,
      it.2,
      it.3,
      it.4,
      it.5,
      record { last = run.new.registry; served = it.6; poisoned = λ e. (it.7 e).0 },
      if_reopened c.args.first run.new.registry it.0 (fault_in_server run.result) it.6 run.ensures.endures (StillHolds g.D.Disk newest) opening.result opening.ensures.represents opening.ensures.clean opening.ensures.is_new opening.ensures.holds,
    )

pub returns-in-Err : goal.returns-in-Err
returns-in-Err g c =
    let run = c.serve_all-served in
    let it = run.ensures.served in
    let opening = c.leave_and_open in (
      it.0,
      it.1,
      it.2,
      it.3,
      it.4,
      it.5,
      record { last = run.new.registry; served = it.6; poisoned = λ e. (it.7 e).0 },
      if_reopened c.args.first run.new.registry it.0 (fault_in_server run.result) it.6 run.ensures.endures (StillHolds g.D.Disk newest) opening.result opening.ensures.represents opening.ensures.clean opening.ensures.is_new opening.ensures.holds,
    )
