use Rattle.std.proofs.Common.{refl, inl, inr, ◌∙◌}
use Rattle.registry_commands.specs.declared.messages.Failure.TheVariants.{Memory}
use Rattle.registry_commands.proofs.ApplyLemmas.{keeps_same}
use Rattle.registry_commands.proofs.looking.put_name.Goals as goal

pub returns-in-Ok : goal.returns-in-Ok
returns-in-Ok g c = inl (rw (← (c.as_slice.ensures.value ∙ c.in-Ok.ensures)) c.print.ensures)

pub returns-in-Err : goal.returns-in-Err
returns-in-Err g c = inr (c.fail.ensures.status, (keeps_same _, refl), (Memory, refl, c.fail.ensures.told))
