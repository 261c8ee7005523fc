use Rattle.std.proofs.Common.{◌≡◌, ◌≤◌, drop}
use Rattle.registry_wire.specs.Record.{is_spread}
use Rattle.registry_wire.proofs.founding_reader.is_spread.Given as goal

abbrev pub invariant-loop-span : goal.invariant-loop-span
invariant-loop-span l = (is_spread l.start (drop l.span-index l.spans) ≡ is_spread 1 l.spans) × (l.start ≤ 65537)
