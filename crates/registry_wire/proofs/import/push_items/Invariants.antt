use Rattle.std.proofs.Common.{◌≡◌, ◌++◌, take}
use Rattle.std.specs.Prelude.{map}
use Rattle.registry_wire.specs.Import.{device_item}
use Rattle.registry_wire.proofs.import.push_items.Given as goal

abbrev pub invariant-loop-mid : goal.invariant-loop-mid
invariant-loop-mid l = l.items.items ≡ l.initial.items.items ++ map device_item (take l.mid-index l.mids)
