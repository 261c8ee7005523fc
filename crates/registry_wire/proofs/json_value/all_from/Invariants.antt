use Rattle.std.proofs.Common.{◌≡◌, drop}
use Rattle.serde_json.specs.View.{items_view}
use Rattle.registry_wire.specs.Record.{all_from}
use Rattle.registry_wire.proofs.ItemLemmas.{with_front}
use Rattle.registry_wire.proofs.json_value.all_from.Given as goal

abbrev pub invariant-loop-value : goal.invariant-loop-value
invariant-loop-value g l = with_front l.list.items (all_from g.T.FromJson.kind (items_view (drop l.value-index l.values))) ≡ all_from g.T.FromJson.kind (items_view l.values)
