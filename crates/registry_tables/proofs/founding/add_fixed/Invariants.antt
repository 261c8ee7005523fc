use Rattle.std.proofs.Common.{true, Ok, take}
use Rattle.registry_rows.specs.Steps.{Changes}
use Rattle.registry_tables.specs.Calls.{WritesTablesOpen}
use Rattle.registry_tables.specs.Changed.{spans_put}
use Rattle.registry_tables.proofs.founding.add_fixed.Given as goal

-- the rows so far are inserted
abbrev pub invariant-loop-span : goal.invariant-loop-span
invariant-loop-span g l = WritesTablesOpen g.S.Store l.initial.tx.conn l.tx.conn (Ok true) (Changes (λ t. record t { fixed = spans_put (take l.span-index l.spans) t.fixed }))
