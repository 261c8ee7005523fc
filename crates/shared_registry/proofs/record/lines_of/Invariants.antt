use Rattle.std.proofs.Common.{◌≡◌, map, take}
use Rattle.registry_wire.specs.Record.{accepted_line}
use Rattle.shared_registry.proofs.record.lines_of.Given as goal

abbrev pub invariant-loop-accepted : goal.invariant-loop-accepted
invariant-loop-accepted l = l.lines ≡ map accepted_line (take l.accepted-index l.list)
