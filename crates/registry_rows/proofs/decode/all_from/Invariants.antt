use Rattle.std.proofs.Common.{◌≡◌, List, map, take}
use Rattle.std.specs.List.{AllByRecursion}
use Rattle.registry_rows.specs.Columns.{AreShown}
use Rattle.registry_rows.proofs.decode.all_from.Given as goal

-- the list has the values of the rows so far
abbrev pub invariant-loop-row : goal.invariant-loop-row
invariant-loop-row g l = record {
  reads : (values : List _) → AllByRecursion g.T.FromRow.is_valid values → l.rows ≡ map g.T.FromRow.columns values → l.all.items ≡ take l.row-index values;
  shown : AreShown g.T.FromRow.columns (take l.row-index l.rows) l.all.items;
}
