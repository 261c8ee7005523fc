use Rattle.std.proofs.Common.{◌≡◌, take}
use Rattle.registry_wire.specs.Import.{items_of}
use Rattle.registry_wire.proofs.import.items_of.Given as goal

abbrev pub invariant-loop-top : goal.invariant-loop-top
invariant-loop-top l = l.items.items ≡ items_of l.vid (take l.top-index l.tops)
