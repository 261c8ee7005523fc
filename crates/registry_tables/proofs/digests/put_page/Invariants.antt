use Rattle.std.proofs.Common.{true, Ok, take}
use Rattle.registry_tables.specs.Calls.{WritesTablesOpen}
use Rattle.registry_tables.specs.Written.{FillsLines}
use Rattle.registry_tables.proofs.digests.put_page.Given as goal

-- the digests of the rows so far are written
abbrev pub invariant-loop-row : goal.invariant-loop-row
invariant-loop-row g l = WritesTablesOpen g.S.Store l.initial.tx.conn l.tx.conn (Ok true) (FillsLines (take l.row-index l.rows) l.fn.head l.reached)
