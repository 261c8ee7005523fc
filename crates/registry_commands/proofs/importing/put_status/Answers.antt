use Rattle.std.proofs.Common.{inl, inr, refl, ap}
use Rattle.std.specs.Prelude.{Err}
use Rattle.registry_commands.proofs.ApplyLemmas.{keeps_same}
use Rattle.registry_commands.proofs.importing.put_status.Goals as goal

pub returns-in-Ok : goal.returns-in-Ok
returns-in-Ok g c = inl (c.exit_status_of.ensures, (c.in-Ok.ensures.ok, c.in-Ok.ensures.kept), (keeps_same _, refl))

pub returns-in-Err : goal.returns-in-Err
returns-in-Err g c =
    inr (c.fail.ensures.status, c.in-Err.ensures.err, (c.in-Err.failure, (c.in-Err.ensures.failure, λ memory. ap g.W.Sink.contents (c.in-Err.ensures.short (ap Err memory))), c.fail.ensures.told))
