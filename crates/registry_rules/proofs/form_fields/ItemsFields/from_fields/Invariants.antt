use Rattle.std.proofs.Common.{◌≡◌, ◌++◌, List, length, map}
use Rattle.std.specs.List.{AllByRecursion}
use Rattle.registry_rules.specs.Orders.{after_tabs, item_field, IsItem}
use Rattle.registry_rules.specs.Reading.{HasNoTab}
use Rattle.registry_rules.specs.declared.item.Item.{Item}
use Rattle.registry_rules.proofs.form_fields.ItemsFields.from_fields.Given as goal

abbrev pub decreases-loop-rest : goal.decreases-loop-rest
decreases-loop-rest l = length l.rest

-- the items so far are the first ones, and the rest of the text has the others
abbrev pub invariant-loop-rest : goal.invariant-loop-rest
invariant-loop-rest l = (values : List Item) → AllByRecursion IsItem values → AllByRecursion HasNoTab (map item_field values) → l.text ≡ after_tabs (map item_field values) →
    (left : List Item) × (values ≡ l.items.items ++ left) × AllByRecursion IsItem left × AllByRecursion HasNoTab (map item_field left) × (l.rest ≡ after_tabs (map item_field left))
