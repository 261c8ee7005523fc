use Rattle.std.proofs.Common.{true, Ok, take}
use Rattle.sqlite_trees.specs.Tree.{IsAscending}
use Rattle.table_laws.specs.Inside.{GoesOn}
use Rattle.registry_rows.specs.Tables.{Tables, Holds}
use Rattle.registry_tables.specs.Calls.{WritesTablesOpen}
use Rattle.registry_tables.specs.Rows.{AreApart}
use Rattle.registry_tables.proofs.StoreLemmas.{AreMade}
use Rattle.registry_tables.proofs.changes.store.Given as goal

-- the changes so far are made
abbrev pub invariant-loop-change : goal.invariant-loop-change
invariant-loop-change g l =
    WritesTablesOpen g.S.Store l.initial.tx.conn l.tx.conn (Ok true) (λ old new. GoesOn old new × ((t : Tables) → Holds old.now t → IsAscending AreApart t.spans → AreMade (take l.change-index l.changes) t new.now))
