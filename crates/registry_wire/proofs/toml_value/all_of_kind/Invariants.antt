use Rattle.std.proofs.Common.{◌≡◌, drop}
use Rattle.toml.specs.View.{items_view}
use Rattle.registry_wire.specs.Founding.{all_of_kind}
use Rattle.registry_wire.proofs.ItemLemmas.{with_front}
use Rattle.registry_wire.proofs.toml_value.all_of_kind.Given as goal

abbrev pub invariant-loop-value : goal.invariant-loop-value
invariant-loop-value g l = with_front l.list.items (all_of_kind g.T.FromToml.kind (items_view (drop l.value-index l.values))) ≡ all_of_kind g.T.FromToml.kind (items_view l.values)
