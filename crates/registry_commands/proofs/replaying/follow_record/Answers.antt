use Rattle.std.proofs.Common.{refl, Ok, Err}
use Rattle.std.proofs.lemmas.Result.{err_from_is_err_and}
use Rattle.registry_commands.proofs.replaying.follow_record.Goals as goal

pub returns-in-None : goal.returns-in-None
returns-in-None g c = rw c.in-None.is (c.follow_lines.ensures.replays, record { kept = c.follow_lines.ensures.kept; waits = c.follow_lines.ensures.waits; passed = c.follow_lines.ensures.passed })

pub returns-in_ok-check_founding-in-Some : goal.returns-in_ok-check_founding-in-Some
returns-in_ok-check_founding-in-Some g c = rw c.in-Some.is (Ok tt, c.check_founding.new.registry, rw c.lines.ensures at c.in_ok-check_founding-in-Some.ensures, (c.follow_lines-in-Some.ensures.replays, record { kept = c.follow_lines-in-Some.ensures.kept; waits = c.follow_lines-in-Some.ensures.waits; passed = c.follow_lines-in-Some.ensures.passed }))

pub returns-in_err-check_founding-in-Some : goal.returns-in_err-check_founding-in-Some
returns-in_err-check_founding-in-Some g c =
    let p = err_from_is_err_and c.from_residual.result c.from_residual.ensures.1 in
    rw (p.1, p.2, c.in-Some.is) (Err c.in_err-check_founding-in-Some.field-0.0, c.check_founding.new.registry, rw c.lines.ensures at c.in_err-check_founding-in-Some.ensures, (refl, refl, refl))
