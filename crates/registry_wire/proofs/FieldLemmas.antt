-- The fields of an object that is written.
use Rattle.std.proofs.Common.{◌≡◌, ℕ, Bool, true, false, List, [], ◌∷◌, ◌++◌, Option, Some, None, refl, Ordering, Less, Equal, Greater}
use Rattle.std.specs.Prelude.{◌||◌, map}
use Rattle.std.specs.Ordering.{match_ordering, nat_cmp}
use Rattle.std.specs.Cmp.Lexicographic.{slice_cmp}
use Rattle.serde_json.specs.Data.{Data, string, array, Members, no_members, member, put}
use Rattle.serde_json.specs.View.{items_of}
use Rattle.serde_json.specs.Written.{has_float, items_have_float, members_have_float}
use Rattle.usbnum_core.specs.declared.number.Span.{Span}
use Rattle.registry_rules.specs.declared.accepted.Accepted.{Accepted}
use Rattle.registry_rules.specs.declared.founding.Founding.{Founding}
use Rattle.registry_rules.specs.declared.item.Item.{Item}
use Rattle.registry_rules.specs.declared.order.Order.{Order}
use Rattle.registry_rules.specs.declared.order.Order.TheVariants as orders
use Rattle.registry_wire.specs.declared.field.Field.{Field}
use Rattle.registry_wire.specs.declared.field.Field.TheVariants as fields
use Rattle.registry_wire.specs.declared.refusal.FoundingFault.{FoundingFault}
use Rattle.registry_wire.specs.Reading.{field_name}
use Rattle.registry_wire.specs.Names.{fault_name}
use Rattle.registry_wire.specs.Record.{digits_if_named, text_if_given, title_data, item_data, order_fields, accepted_fields, with_fields, span_data, founding_keys, with_keys}

pub with_fields_append : (a b : List (Field × Data)) (ms : Members) → with_fields (a ++ b) ms ≡ with_fields b (with_fields a ms)
with_fields_append [] b ms = refl
with_fields_append (first ∷ a) b ms = with_fields_append a b (put (field_name first.0) first.1 ms)

-- ---- no fraction

or_is_false : (a b : Bool) → a ≡ false → b ≡ false → (a || b) ≡ false
or_is_false true b x y = absurd cc
or_is_false false b x y = y

both_false : (a b : Bool) → (a || b) ≡ false → (a ≡ false) × (b ≡ false)
both_false true b e = absurd cc
both_false false b e = (refl, e)

match_is_plain : (o : Ordering) (a b c : Members) → members_have_float a ≡ false → members_have_float b ≡ false → members_have_float c ≡ false → members_have_float (match_ordering o a b c) ≡ false
match_is_plain Less a b c x y z = x
match_is_plain Equal a b c x y z = y
match_is_plain Greater a b c x y z = z

put_is_plain : (k : List ℕ) (d : Data) (ms : Members) → has_float d ≡ false → members_have_float ms ≡ false → members_have_float (put k d ms) ≡ false
put_is_plain k d no_members plain all = or_is_false (has_float d) (members_have_float no_members) plain all
put_is_plain k d (member l e ms) plain all =
    let rest = both_false (has_float e) (members_have_float ms) all in
    match_is_plain (slice_cmp nat_cmp k l) (member k d (member l e ms)) (member l d ms) (member l e (put k d ms))
    (or_is_false (has_float d) (members_have_float (member l e ms)) plain all)
    (or_is_false (has_float d) (members_have_float ms) plain rest.1)
    (or_is_false (has_float e) (members_have_float (put k d ms)) rest.0 (put_is_plain k d ms plain rest.1))

-- each value has no fraction
abbrev fields_have_float : {K : Type 0} → List (K × Data) → Bool
fields_have_float [] = false
fields_have_float (first ∷ others) = has_float first.1 || fields_have_float others

fields_are_plain : (fields : List (Field × Data)) (ms : Members) → fields_have_float fields ≡ false → members_have_float ms ≡ false → members_have_float (with_fields fields ms) ≡ false
fields_are_plain [] ms plain all = all
fields_are_plain (first ∷ others) ms plain all =
    let parts = both_false (has_float first.1) (fields_have_float others) plain in
    fields_are_plain others (put (field_name first.0) first.1 ms) parts.1 (put_is_plain (field_name first.0) first.1 ms parts.0 all)

keys_are_plain : (keys : List (FoundingFault × Data)) (ms : Members) → fields_have_float keys ≡ false → members_have_float ms ≡ false → members_have_float (with_keys keys ms) ≡ false
keys_are_plain [] ms plain all = all
keys_are_plain (first ∷ others) ms plain all =
    let parts = both_false (has_float first.1) (fields_have_float others) plain in
    keys_are_plain others (put (fault_name first.0) first.1 ms) parts.1 (put_is_plain (fault_name first.0) first.1 ms parts.0 all)

title_plain : (title : Option (List ℕ)) → has_float (title_data title) ≡ false
title_plain None = refl
title_plain (Some title) = refl

items_plain : (items : List Item) → items_have_float (items_of (map item_data items)) ≡ false
items_plain [] = refl
items_plain (first ∷ others) = or_is_false (has_float (item_data first)) (items_have_float (items_of (map item_data others))) (or_is_false (has_float (title_data first.title)) false (title_plain first.title) refl) (items_plain others)

texts_plain : (texts : List (List ℕ)) → items_have_float (items_of (map string texts)) ≡ false
texts_plain [] = refl
texts_plain (first ∷ others) = texts_plain others

spans_plain : (spans : List Span) → items_have_float (items_of (map span_data spans)) ≡ false
unfolding span_data
spans_plain [] = refl
spans_plain (first ∷ others) = spans_plain others

named_plain : (field : Field) (number : Option ℕ) → fields_have_float (digits_if_named field number) ≡ false
named_plain field None = refl
named_plain field (Some n) = refl

text_plain : (field : Field) (text : Option (List ℕ)) → fields_have_float (text_if_given field text) ≡ false
text_plain field None = refl
text_plain field (Some text) = refl

ask_plain : (want vendor : Option ℕ) → fields_have_float (digits_if_named fields.Number want ++ digits_if_named fields.Vendor vendor) ≡ false
ask_plain None vendor = named_plain fields.Vendor vendor
ask_plain (Some n) vendor = named_plain fields.Vendor vendor

order_plain : (order : Order) → fields_have_float (order_fields order) ≡ false
order_plain (orders.Enrol it) = refl
order_plain (orders.AmendOrg it) = refl
order_plain (orders.HandOver it) = refl
order_plain (orders.CorrectOrg it) = refl
order_plain (orders.Ask it) = ask_plain it.want it.vendor
order_plain (orders.Grant it) = named_plain fields.Number it.number
order_plain (orders.Decline it) = text_plain fields.Reason it.reason
order_plain (orders.Withdraw it) = refl
order_plain (orders.Amend it) = named_plain fields.Vendor it.vendor
order_plain (orders.Return it) = named_plain fields.Vendor it.vendor
order_plain (orders.Correct it) = named_plain fields.Vendor it.vendor
order_plain (orders.Revoke it) = named_plain fields.Vendor it.vendor
order_plain (orders.Reserve it) = named_plain fields.Vendor it.vendor
order_plain (orders.Release it) = named_plain fields.Vendor it.vendor
order_plain (orders.Import it) = or_is_false (has_float (array (items_of (map item_data it.items)))) (fields_have_float (digits_if_named fields.Vendor it.vendor)) (items_plain it.items) (named_plain fields.Vendor it.vendor)
order_plain (orders.AddVendor it) = refl
order_plain (orders.AddLicence it) = refl

timed_plain : (time : Option (List ℕ)) (order : Order) → fields_have_float (text_if_given fields.At time ++ order_fields order) ≡ false
timed_plain None order = order_plain order
timed_plain (Some time) order = order_plain order

-- an accepted request has no fraction
pub accepted_plain : (accepted : Accepted) → members_have_float (with_fields (accepted_fields accepted) no_members) ≡ false
accepted_plain accepted = fields_are_plain (accepted_fields accepted) no_members (timed_plain accepted.request.time accepted.request.order) refl

-- neither has a founding
pub founding_plain : (founding : Founding) → members_have_float (with_keys (founding_keys founding) no_members) ≡ false
founding_plain founding =
    let spans = or_is_false (has_float (array (items_of (map span_data founding.fixed)))) false (spans_plain founding.fixed) refl in
    let licences = or_is_false (has_float (array (items_of (map string founding.licences)))) _ (texts_plain founding.licences) spans in
    keys_are_plain (founding_keys founding) no_members (or_is_false (has_float (array (items_of (map string founding.curators)))) _ (texts_plain founding.curators) licences) refl
