use Rattle.std.proofs.Common.{refl, inl, inr}
use Rattle.registry_commands.specs.declared.messages.Failure.TheVariants.{File}
use Rattle.registry_commands.proofs.ApplyLemmas.{keeps_same}
use Rattle.registry_commands.proofs.printing.print.Goals as goal

pub returns-in-Ok : goal.returns-in-Ok
returns-in-Ok g c = inl (refl, c.in-Ok.ensures, (keeps_same _, refl))

pub returns-in-Err : goal.returns-in-Err
returns-in-Err g c = inr (c.fail.ensures.status, c.in-Err.ensures.0, (File, (refl, c.in-Err.ensures.1), c.fail.ensures.told))
