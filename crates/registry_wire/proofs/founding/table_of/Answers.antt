use Rattle.std.proofs.Common.{rules}
use Rattle.toml.specs.View.{table_view}
use Rattle.registry_wire.proofs.TreeLemmas.{table_of_read, table_of_refused}
use Rattle.registry_wire.proofs.founding.table_of.Goals as goal

pub returns-in-Ok : goal.returns-in-Ok
returns-in-Ok c = table_of_read c.args.bytes.now (table_view c.in-Ok.table) c.in-Ok.ensures.ok.0 c.in-Ok.ensures.ok.1

pub returns-else-is_memory : goal.returns-else-is_memory
returns-else-is_memory c = table_of_refused c.args.bytes.now (c.in-Err.ensures.refused (search rules))
