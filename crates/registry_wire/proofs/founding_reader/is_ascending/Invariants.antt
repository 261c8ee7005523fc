use Rattle.std.proofs.Common.{◌≡◌, drop}
use Rattle.registry_wire.specs.Record.{is_ascending}
use Rattle.registry_wire.proofs.founding_reader.is_ascending.Given as goal

abbrev pub invariant-loop-i : goal.invariant-loop-i
invariant-loop-i g l = is_ascending (drop l.i l.texts) ≡ is_ascending l.texts
