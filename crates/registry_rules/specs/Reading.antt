-- Canonical forms that are read back, field by field. No public contract uses these.
use Rattle.std.specs.Prelude.{◌≡◌, ◌≢◌, ℕ, suc, nat_eq, if◌then◌else◌, List, [], ◌∷◌, drop, Result, Ok, Err}
use Rattle.std.specs.List.{AllByRecursion}
use Rattle.registry_rules.specs.Orders.{fields_of, after_tabs, IsOrder}
use Rattle.registry_rules.specs.declared.form_fields.Unread.{Unread}
use Rattle.registry_rules.specs.declared.form_fields.Unread.TheVariants.{NoMemory}
use Rattle.registry_rules.specs.declared.order.Order.{Order}

-- no byte of the text is a tab
abbrev pub HasNoTab : List ℕ → Type 0
HasNoTab = AllByRecursion (λ byte. byte ≢ 9)

-- the length of the text before its first tab, or of all of it
abbrev pub tab_at : List ℕ → ℕ
tab_at [] = 0
tab_at (byte ∷ text) = if nat_eq byte 9 then 0 else suc (tab_at text)

-- the first field of an order, which names its kind
abbrev pub first_field : List (List ℕ) → List ℕ
first_field [] = []
first_field (field ∷ fields) = field

abbrev pub kind_of : Order → List ℕ
kind_of order = first_field (fields_of order)

-- the fields after it, each after a tab
abbrev pub after_kind : Order → List ℕ
after_kind order = after_tabs (drop 1 (fields_of order))

-- the result is this value, unless out of memory
abbrev pub Reads : {A : Type 0} → Result A Unread → A → Type 0
Reads (Ok a) value = a ≡ value
Reads (Err unread) value = unread ≡ NoMemory

-- from the fields after the kind of a valid order this order is read
abbrev pub ReadsBack : List ℕ → Result Order Unread → Order → Type 0
ReadsBack fields result order = IsOrder order → AllByRecursion HasNoTab (drop 1 (fields_of order)) → fields ≡ after_kind order → Reads result order
