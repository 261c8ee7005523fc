use Rattle.std.proofs.Common.{◌∙◌, inl, inr, refl}
use Rattle.toml.specs.View.{table_view}
use Rattle.registry_commands.specs.declared.messages.Failure.TheVariants.{Memory}
use Rattle.registry_commands.proofs.founding_check.tell_keys.Goals as goal

pub returns-in-Ok : goal.returns-in-Ok
returns-in-Ok g c = inl (c.tell_lines.ensures (table_view c.args.table.now) (c.as_slice.ensures.value ∙ c.in-Ok.ensures))

pub returns-in-Err : goal.returns-in-Err
returns-in-Err g c = inr (c.fail.ensures.status, (Memory, refl, c.fail.ensures.told))
