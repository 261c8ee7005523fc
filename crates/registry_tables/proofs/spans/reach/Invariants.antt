use Rattle.std.proofs.Common.{take}
use Rattle.registry_tables.specs.Reserved.{Reaches}
use Rattle.registry_tables.proofs.spans.reach.Given as goal

-- the bounds reach the spans so far
abbrev pub invariant-loop-other : goal.invariant-loop-other
invariant-loop-other l = Reaches l.fn.span (take l.other-index l.found) l.least l.greatest
