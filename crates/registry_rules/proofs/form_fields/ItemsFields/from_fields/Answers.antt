use Rattle.std.proofs.Common.{◌≡◌, ◌++◌, ◌∷◌, [], List, length, map, ap, sym, ◌∙◌, append_assoc, arith, rules}
use Rattle.std.specs.List.{AllByRecursion}
use Rattle.std.proofs.lemmas.List.{append-nil}
use Rattle.std.proofs.lemmas.Bool.Decides.{nat_tests}
use Rattle.registry_rules.specs.Orders.{after_tabs, item_field, IsItem}
use Rattle.registry_rules.specs.Reading.{HasNoTab}
use Rattle.registry_rules.specs.declared.form_fields.Unread.TheVariants.{NoMemory}
use Rattle.registry_rules.specs.declared.item.Item.{Item}
use Rattle.registry_rules.proofs.form_fields.ItemsFields.from_fields.Goals as goal

pub returns-in_err-field : goal.returns-in_err-field
returns-in_err-field c values valid none is = let inv = c.loop-rest.invariant values valid none is in absurd (go inv.0 inv.3 inv.4)
  where
    go : (left : List Item) → AllByRecursion HasNoTab (map item_field left) → c.loop-rest.rest.now ≡ after_tabs (map item_field left) → ⊥
    go [] none is = let empty : length c.loop-rest.rest.now ≡ 0 = ap length is in absurd (grind (arith, nat_tests))
    go (item ∷ items) none is = c.in_err-field.ensures.reads (item_field item) (map item_field items) none.0 is

pub returns-in_err-from_field : goal.returns-in_err-from_field
returns-in_err-from_field c values valid none is =
    let inv = c.loop-rest.invariant values valid none is in
    let lost : c.in_err-from_field.field-0.0 ≡ NoMemory = go inv.0 inv.2 inv.3 inv.4 in
    search rules
  where
    go : (left : List Item) → AllByRecursion IsItem left → AllByRecursion HasNoTab (map item_field left) → c.loop-rest.rest.now ≡ after_tabs (map item_field left) → c.in_err-from_field.field-0.0 ≡ NoMemory
    go [] valid none is = let empty : length c.loop-rest.rest.now ≡ 0 = ap length is in absurd (grind (arith, nat_tests))
    go (item ∷ items) valid none is = c.in_err-from_field.ensures item valid.0 (c.in_ok-field.ensures.reads (item_field item) (map item_field items) none.0 is).0

pub loop-rest-preserved : goal.loop-rest-preserved
loop-rest-preserved c values valid none is = let inv = c.loop-rest.invariant values valid none is in go inv.0 inv.1 inv.2 inv.3 inv.4
  where
    go : (left : List Item) → values ≡ c.loop-rest.items.items ++ left → AllByRecursion IsItem left → AllByRecursion HasNoTab (map item_field left) → c.loop-rest.rest.now ≡ after_tabs (map item_field left) →
        (x : List Item) × (values ≡ c.push.new.self.items ++ x) × AllByRecursion IsItem x × AllByRecursion HasNoTab (map item_field x) × (c.in_ok-field.others.now ≡ after_tabs (map item_field x))
    go [] split valid none is = let empty : length c.loop-rest.rest.now ≡ 0 = ap length is in absurd (grind (arith, nat_tests))
    go (item ∷ items) split valid none is =
        let front = c.loop-rest.items.items in
        let parts = c.in_ok-field.ensures.reads (item_field item) (map item_field items) none.0 is in
        let read : c.in_ok-from_field.field-0 ≡ item = c.in_ok-from_field.ensures item valid.0 parts.0 in
        let pushed : c.push.new.self.items ≡ front ++ item ∷ [] = c.in_ok-push.ensures.items ∙ ap (λ x. front ++ x ∷ []) read in
        (items, split ∙ sym (append_assoc front (item ∷ []) items) ∙ ap (λ l. l ++ items) (sym pushed), valid.1, none.1, parts.1)

pub returns : goal.returns
returns c values valid none is = let inv = c.loop-rest.invariant values valid none is in go inv.0 inv.1 inv.4
  where
    go : (left : List Item) → values ≡ c.loop-rest.items.items ++ left → c.loop-rest.rest.now ≡ after_tabs (map item_field left) → c.new.result ≡ values
    go [] split is = c.new.ensures ∙ sym (split ∙ append-nil c.loop-rest.items.items)
    go (item ∷ items) split is = let filled : length c.loop-rest.rest.now ≡ length (after_tabs (map item_field (item ∷ items))) = ap length is in absurd (grind (arith, nat_tests))
