use Rattle.std.proofs.Common.{refl, inl, inr}
use Rattle.registry_commands.specs.declared.messages.Failure.TheVariants.{File}
use Rattle.registry_commands.proofs.ApplyLemmas.{keeps_same}
use Rattle.registry_commands.proofs.exporting.put_document.Goals as goal

pub returns-in-Ok-clause-printed : goal.returns-in-Ok-clause-printed
returns-in-Ok-clause-printed g c = inl (refl, c.in-Ok.ensures.writes, (keeps_same _, refl))

pub returns-in-Err-clause-printed : goal.returns-in-Err-clause-printed
returns-in-Err-clause-printed g c = inr (c.fail.ensures.status, c.in-Err.ensures.writes.0, (File, (refl, c.in-Err.ensures.writes.1), c.fail.ensures.told))
