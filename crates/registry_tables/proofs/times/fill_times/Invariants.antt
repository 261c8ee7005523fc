use Rattle.std.proofs.Common.{true, Ok}
use Rattle.registry_tables.specs.Calls.{WritesTablesOpen}
use Rattle.registry_tables.proofs.TimeLemmas.{IsReadTo}
use Rattle.registry_tables.proofs.times.fill_times.Given as goal

-- the times of the requests so far are written
abbrev pub invariant-loop : goal.invariant-loop
invariant-loop g l = WritesTablesOpen g.S.Store l.initial.tx.conn l.tx.conn (Ok true) (IsReadTo l.place)
