use Rattle.std.proofs.Common.{inl, inr, refl}
use Rattle.registry_program.proofs.dry_runs.run_found_check.Goals as goal

pub returns-in-Ok : goal.returns-in-Ok
returns-in-Ok g c out =
    let checked = c.check_founding.ensures in
    inl (c.in-Ok.source, c.check_founding.new.source, c.in-Ok.ensures.opened, (checked.0, checked.1, refl, checked.2, checked.3, checked.4))

pub returns-in-Err : goal.returns-in-Err
returns-in-Err g c out = inr (c.in-Err.failure, c.in-Err.ensures.missed, (refl, c.fail.ensures.status, c.fail.ensures.told))
