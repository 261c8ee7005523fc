use Rattle.std.proofs.Common.{◌<◌, ℕ, slice_index_or}
use Rattle.registry_rules.specs.Orders.{IsItem}
use Rattle.registry_rules.specs.declared.item.Item.{Item}
use Rattle.shared_registry.proofs.valid.has_items.Given as goal

abbrev pub invariant-loop-item : goal.invariant-loop-item
invariant-loop-item l = (k : ℕ) → (d : Item) → k < l.item-index → IsItem (slice_index_or l.items k d)
