use Rattle.std.proofs.Common.{◌≡◌, take}
use Rattle.std.specs.Prelude.{map}
use Rattle.serde_json.specs.View.{view}
use Rattle.registry_wire.specs.Record.{item_data}
use Rattle.registry_wire.proofs.accepted_writer.items_value.Given as goal

abbrev pub invariant-loop-item : goal.invariant-loop-item
invariant-loop-item l = map view l.values.items ≡ map item_data (take l.item-index l.items)
