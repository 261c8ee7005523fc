use Rattle.std.proofs.Common.{true, Ok, take}
use Rattle.registry_rows.specs.Steps.{Changes}
use Rattle.registry_tables.specs.Calls.{WritesTablesOpen}
use Rattle.registry_tables.specs.Changed.{names_put}
use Rattle.registry_tables.proofs.founding.add_curators.Given as goal

-- the rows so far are inserted
abbrev pub invariant-loop-name : goal.invariant-loop-name
invariant-loop-name g l = WritesTablesOpen g.S.Store l.initial.tx.conn l.tx.conn (Ok true) (Changes (λ t. record t { curators = names_put (take l.name-index l.names) t.curators }))
