use Rattle.std.proofs.Common.{inr, refl}
use Rattle.toml.specs.View.{table_view}
use Rattle.registry_wire.proofs.TreeLemmas.{table_of_read}
use Rattle.registry_commands.specs.declared.messages.Failure.TheVariants.{Memory}
use Rattle.registry_commands.proofs.founding_check.check_keys.Goals as goal

pub returns-in-Ok : goal.returns-in-Ok
returns-in-Ok g c = rw (table_of_read c.args.bytes.now (table_view c.in-Ok.table) c.in-Ok.ensures.ok.0 c.in-Ok.ensures.ok.1) c.tell_keys.ensures

pub returns-in-Err : goal.returns-in-Err
returns-in-Err g c = inr (c.fail.ensures.status, (Memory, refl, c.fail.ensures.told))
