use Rattle.std.proofs.Common.{◌≡◌, take}
use Rattle.std.specs.Prelude.{map}
use Rattle.serde_json.specs.View.{view}
use Rattle.registry_wire.specs.Record.{span_data}
use Rattle.registry_wire.proofs.founding_writer.spans_value.Given as goal

abbrev pub invariant-loop-span : goal.invariant-loop-span
invariant-loop-span l = map view l.values.items ≡ map span_data (take l.span-index l.spans)
