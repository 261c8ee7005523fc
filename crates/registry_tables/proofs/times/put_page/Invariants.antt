use Rattle.std.proofs.Common.{true, Ok, take}
use Rattle.registry_tables.specs.Calls.{WritesTablesOpen}
use Rattle.registry_tables.specs.Times.{PutsPage}
use Rattle.registry_tables.proofs.times.put_page.Given as goal

-- the times of the accepted requests so far are written
abbrev pub invariant-loop-accepted : goal.invariant-loop-accepted
invariant-loop-accepted g l = WritesTablesOpen g.S.Store l.initial.tx.conn l.tx.conn (Ok true) (PutsPage l.fn.place (take l.accepted-index l.page) l.reached)
