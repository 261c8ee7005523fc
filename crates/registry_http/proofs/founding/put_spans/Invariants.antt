use Rattle.std.proofs.Common.{◌≡◌, take, map}
use Rattle.serde_json.specs.View.{view}
use Rattle.registry_http.specs.Foundings.{range_data}
use Rattle.registry_http.proofs.founding.put_spans.Given as goal

abbrev pub invariant-loop-span : goal.invariant-loop-span
invariant-loop-span l = map view l.items.items ≡ map range_data (take l.span-index l.spans)
