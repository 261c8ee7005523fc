use Rattle.std.proofs.Common.{true, Ok}
use Rattle.registry_tables.specs.Calls.{WritesTablesOpen}
use Rattle.registry_tables.specs.Written.{FillsTo}
use Rattle.registry_tables.proofs.digests.put_pages.Given as goal

-- the digests up to the head so far are written
abbrev pub invariant-loop : goal.invariant-loop
invariant-loop g l = WritesTablesOpen g.S.Store l.initial.tx.conn l.tx.conn (Ok true) (FillsTo l.fn.head l.reached)
