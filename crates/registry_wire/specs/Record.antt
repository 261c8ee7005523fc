-- The lines of a record, as JSON: the founding of a history, and its accepted requests with their replies.
use Rattle.std.specs.Prelude.{ℕ, ◌+◌, ◌&&◌, nat_le, List, [], ◌∷◌, ◌++◌, map, codes, bytes_eq, Bool, true, false, Option, Some, None, is_some, option_and_then, option_map, Result, Ok, if◌then◌else◌}
use Rattle.std.specs.Cmp.Lexicographic.{slice_cmp}
use Rattle.std.specs.Ordering.{nat_cmp, is_lt}
use Rattle.serde_json.specs.Data.{Data, null, number, unsigned, string, array, object, Items, no_items, item, Members, no_members, put}
use Rattle.serde_json.specs.Find.{get, as_null, as_str, as_array}
use Rattle.serde_json.specs.View.{items_of}
use Rattle.serde_json.specs.Written.{compact_text}
use Rattle.usbnum_core.specs.Number.{code_of, digits_of, range_text}
use Rattle.usbnum_core.specs.declared.number.Span.{Span}
use Rattle.registry_rules.specs.Checks.{◌>>=◌}
use Rattle.registry_rules.specs.Limits.{most_curators, most_licences}
use Rattle.registry_rules.specs.declared.accepted.Accepted.{Accepted}
use Rattle.registry_rules.specs.declared.founding.Founding.{Founding}
use Rattle.registry_rules.specs.declared.item.Item.{Item}
use Rattle.registry_rules.specs.declared.order.Order.{Order}
use Rattle.registry_rules.specs.declared.order.Order.TheVariants as orders
use Rattle.registry_rules.specs.declared.record.Terms.{Terms}
use Rattle.registry_wire.specs.declared.field.Field.{Field}
use Rattle.registry_wire.specs.declared.field.Field.TheVariants as fields
use Rattle.registry_wire.specs.declared.fields.Origin.TheVariants as origins
use Rattle.registry_wire.specs.declared.record.RecordLine.{RecordLine}
use Rattle.registry_wire.specs.declared.record.RecordLine.TheVariants as lines
use Rattle.registry_wire.specs.declared.refusal.FoundingFault.{FoundingFault}
use Rattle.registry_wire.specs.declared.refusal.FoundingFault.TheVariants as faults
use Rattle.registry_wire.specs.declared.refusal.WireRefusal.{WireRefusal}
use Rattle.registry_wire.specs.declared.refusal.WireRefusal.TheVariants.{BadFounding}
use Rattle.registry_wire.specs.Founding.{span_written, one_to}
use Rattle.registry_wire.specs.Names.{fault_name}
use Rattle.registry_wire.specs.Reading.{slug_from, title_from, id_from, digest_from, field_name, field_in, optional_in, text_in, slug_in, key_in, optional_id_in, time_in, order_in, object_of}
use Rattle.registry_wire.specs.Refusals.{value_or}

-- ---- the line of an accepted request

-- one field if the order names a number or a vendor, otherwise none
abbrev pub digits_if_named : Field → Option ℕ → List (Field × Data)
digits_if_named field None = []
digits_if_named field (Some n) = (field, string (digits_of n)) ∷ []

-- one field if there is a text, otherwise none
abbrev pub text_if_given : Field → Option (List ℕ) → List (Field × Data)
text_if_given field None = []
text_if_given field (Some text) = (field, string text) ∷ []

abbrev pub title_data : Option (List ℕ) → Data
title_data None = null
title_data (Some title) = string title

-- ["0011","Blinker"], or ["0012",null] if the item has no title
abbrev pub item_data : Item → Data
item_data it = array (item (string (digits_of it.code)) (item (title_data it.title) no_items))

abbrev pub fields_of_terms : Terms → List (Field × Data)
fields_of_terms terms = (fields.Licence, string terms.licence) ∷ (fields.Site, string terms.site) ∷ (fields.Source, string terms.source) ∷ []

abbrev pub petition_field : ℕ → Field × Data
petition_field petition = (fields.Petition, number (unsigned petition))

-- the fields of an order, beside its kind
abbrev pub order_fields : Order → List (Field × Data)
order_fields (orders.Enrol it) = (fields.Order, string (codes "enrol")) ∷ (fields.Org, string it.org) ∷ (fields.Title, string it.title) ∷ (fields.Site, string it.site) ∷ []
order_fields (orders.AmendOrg it) = (fields.Order, string (codes "amend-org")) ∷ (fields.Org, string it.org) ∷ (fields.Title, string it.title) ∷ (fields.Site, string it.site) ∷ []
order_fields (orders.HandOver it) = (fields.Order, string (codes "hand-over")) ∷ (fields.Org, string it.org) ∷ (fields.Keeper, string it.keeper) ∷ []
order_fields (orders.CorrectOrg it) = (fields.Order, string (codes "correct-org")) ∷ (fields.Org, string it.org) ∷ (fields.Title, string it.title) ∷ (fields.Site, string it.site) ∷ []
order_fields (orders.Ask it) = (fields.Order, string (codes "ask")) ∷ (fields.Org, string it.org) ∷ (fields.Title, string it.title) ∷ fields_of_terms it.terms ++ digits_if_named fields.Number it.want ++ digits_if_named fields.Vendor it.vendor
order_fields (orders.Grant it) = (fields.Order, string (codes "grant")) ∷ petition_field it.petition ∷ digits_if_named fields.Number it.number
order_fields (orders.Decline it) = (fields.Order, string (codes "decline")) ∷ petition_field it.petition ∷ text_if_given fields.Reason it.reason
order_fields (orders.Withdraw it) = (fields.Order, string (codes "withdraw")) ∷ petition_field it.petition ∷ []
order_fields (orders.Amend it) = (fields.Order, string (codes "amend")) ∷ (fields.Number, string (digits_of it.number)) ∷ (fields.Title, string it.title) ∷ fields_of_terms it.terms ++ digits_if_named fields.Vendor it.vendor
order_fields (orders.Return it) = (fields.Order, string (codes "return")) ∷ (fields.Number, string (digits_of it.number)) ∷ digits_if_named fields.Vendor it.vendor
order_fields (orders.Correct it) = (fields.Order, string (codes "correct")) ∷ (fields.Number, string (digits_of it.number)) ∷ (fields.Title, string it.title) ∷ fields_of_terms it.terms ++ digits_if_named fields.Vendor it.vendor
order_fields (orders.Revoke it) = (fields.Order, string (codes "revoke")) ∷ (fields.Number, string (digits_of it.number)) ∷ (fields.Reason, string it.reason) ∷ digits_if_named fields.Vendor it.vendor
order_fields (orders.Reserve it) = (fields.Order, string (codes "reserve")) ∷ (fields.First, string (digits_of it.span.first)) ∷ (fields.Last, string (digits_of it.span.last)) ∷ digits_if_named fields.Vendor it.vendor
order_fields (orders.Release it) = (fields.Order, string (codes "release")) ∷ (fields.First, string (digits_of it.span.first)) ∷ (fields.Last, string (digits_of it.span.last)) ∷ digits_if_named fields.Vendor it.vendor
order_fields (orders.Import it) = (fields.Order, string (codes "import")) ∷ (fields.Org, string it.org) ∷ (fields.Items, array (items_of (map item_data it.items))) ∷ digits_if_named fields.Vendor it.vendor
order_fields (orders.AddVendor it) = (fields.Order, string (codes "add-vendor")) ∷ (fields.Vendor, string (digits_of it.vendor)) ∷ (fields.Name, string it.name) ∷ []
order_fields (orders.AddLicence it) = (fields.Order, string (codes "add-licence")) ∷ (fields.Licence, string it.licence) ∷ []

abbrev pub accepted_fields : Accepted → List (Field × Data)
accepted_fields accepted =
    (fields.Caller, string accepted.request.caller) ∷ (fields.Key, string accepted.request.key) ∷ (fields.Done, string accepted.reply) ∷ text_if_given fields.At accepted.request.time
    ++ order_fields accepted.request.order

-- the members with these fields too, in the order of the bytes of their names
abbrev pub with_fields : List (Field × Data) → Members → Members
with_fields [] members = members
with_fields (first ∷ others) members = with_fields others (put (field_name first.0) first.1 members)

unfoldable pub accepted_data : Accepted → Data
accepted_data accepted = object (with_fields (accepted_fields accepted) no_members)

-- an accepted request with its reply, as compact JSON without a line feed
abbrev pub accepted_line : Accepted → List ℕ
accepted_line accepted = compact_text (accepted_data accepted)

-- ---- the line of a founding

-- "0001-0010"
unfoldable pub span_data : Span → Data
span_data span = string (range_text span.first span.last)

-- the keys of the founding file, each with its value
abbrev pub founding_keys : Founding → List (FoundingFault × Data)
founding_keys founding =
    (faults.Vendor, string (digits_of founding.vendor)) ∷ (faults.Name, string founding.name) ∷ (faults.Curators, array (items_of (map string founding.curators)))
    ∷ (faults.Licences, array (items_of (map string founding.licences))) ∷ (faults.Fixed, array (items_of (map span_data founding.fixed))) ∷ []

abbrev pub with_keys : List (FoundingFault × Data) → Members → Members
with_keys [] members = members
with_keys (first ∷ others) members = with_keys others (put (fault_name first.0) first.1 members)

unfoldable pub founding_data : Founding → Data
founding_data founding = object (with_keys (founding_keys founding) no_members)

-- a founding, as compact JSON without a line feed
abbrev pub founding_line : Founding → List ℕ
founding_line founding = compact_text (founding_data founding)

-- ---- the accepted request in a line

-- the title of an item, or null
abbrev pub title_or_null : Data → Option (Option (List ℕ))
title_or_null found = if is_some (as_null found) then Some None else option_map (λ title. Some title) (title_from found)

-- the item with the four digits of its code, which may be 0000, and its title or null
abbrev pub pair_item : Data → Data → Option Item
pair_item code title = option_and_then (λ c. option_map (λ t. record { code = c; title = t }) (title_or_null title)) (option_and_then code_of (as_str code))

-- an array of exactly two values as an item
abbrev pub item_of_pair : Items → Option Item
item_of_pair no_items = None
item_of_pair (item code no_items) = None
item_of_pair (item code (item title no_items)) = pair_item code title
item_of_pair (item code (item title (item third others))) = None

abbrev pub item_from : Data → Option Item
item_from found = option_and_then item_of_pair (as_array found)

-- the values of an array, if all are of the kind
unfoldable pub all_from : {A : Type 0} → (Data → Option A) → Items → Option (List A)
all_from kind no_items = Some []
all_from kind (item first others) = option_and_then (λ x. option_map (λ xs. x ∷ xs) (all_from kind others)) (kind first)

-- an array of items
abbrev pub items_from : Data → Option (List Item)
items_from found = option_and_then (all_from item_from) (as_array found)

abbrev pub items_in : Data → Result (List Item) WireRefusal
items_in tree = field_in items_from fields.Items tree

unfoldable pub kept_import_in : Data → Result Order WireRefusal
kept_import_in tree = do
  org ← slug_in fields.Org tree
  items ← items_in tree
  vendor ← optional_id_in fields.Vendor tree
  Ok (orders.Import (record { org = org; items = items; vendor = vendor }))

-- whether the order is an import, which only a record has
abbrev pub names_import : Option (List ℕ) → Bool
names_import None = false
names_import (Some name) = bytes_eq name (codes "import")

unfoldable pub kept_order_in : Data → Result Order WireRefusal
kept_order_in tree = if names_import (text_in fields.Order tree) then kept_import_in tree else order_in origins.Record tree

abbrev pub reply_in : Data → Result (List ℕ) WireRefusal
reply_in tree = field_in as_str fields.Done tree

-- the fields in the order in which they are checked
unfoldable pub kept_request_in : Data → Result Accepted WireRefusal
kept_request_in tree = do
  caller ← slug_in fields.Caller tree
  key ← key_in fields.Key tree
  order ← kept_order_in tree
  reply ← reply_in tree
  time ← time_in tree
  Ok (record { request = record { caller = caller; key = key; order = order; time = time }; reply = reply })

-- the digest after the request, if the line has one
abbrev pub digest_in : Data → Result (Option (List ℕ)) WireRefusal
digest_in tree = optional_in digest_from fields.Digest tree

-- the line of an accepted request with this digest, or the refusal of its digest
abbrev pub line_with : Accepted → Result (Option (List ℕ)) WireRefusal → Result RecordLine WireRefusal
line_with accepted digest = digest >>= λ digest. Ok (lines.Accepted accepted digest)

-- an accepted request, and then the digest after it
unfoldable pub accepted_line_in : Data → Result RecordLine WireRefusal
accepted_line_in tree = do
  accepted ← kept_request_in tree
  line_with accepted (digest_in tree)

-- ---- the founding in a line

-- the value of a key, or the refusal that the key is bad
unfoldable pub key_value : {A : Type 0} → (Data → Option A) → FoundingFault → Data → Result A WireRefusal
key_value kind key tree = value_or (BadFounding key) (option_and_then kind (get (fault_name key) tree))

abbrev pub span_from : Data → Option Span
span_from found = option_and_then span_written (as_str found)

-- whether the text comes before the first of these, if there is one
abbrev pub is_before_all : List ℕ → List (List ℕ) → Bool
is_before_all text [] = true
is_before_all text (first ∷ others) = is_lt (slice_cmp nat_cmp text first)

-- whether the texts ascend, without repeats
unfoldable pub is_ascending : List (List ℕ) → Bool
is_ascending [] = true
is_ascending (first ∷ others) = is_before_all first others && is_ascending others

abbrev pub if_ascending : List (List ℕ) → Option (List (List ℕ))
if_ascending texts = if is_ascending texts then Some texts else None

-- an ascending array of one to `most` texts of the kind
abbrev pub texts_from : (Data → Option (List ℕ)) → ℕ → Data → Option (List (List ℕ))
texts_from kind most found = option_and_then if_ascending (option_and_then (one_to most) (option_and_then (all_from kind) (as_array found)))

-- whether the spans are maximal, the first from `start` on, all up to 65,535
unfoldable pub is_spread : ℕ → List Span → Bool
is_spread start [] = true
is_spread start (span ∷ others) = nat_le start span.first && nat_le span.last 65535 && is_spread (span.last + 2) others

abbrev pub if_spread : List Span → Option (List Span)
if_spread spans = if is_spread 1 spans then Some spans else None

-- an array of maximal spans
abbrev pub spans_from : Data → Option (List Span)
spans_from found = option_and_then if_spread (option_and_then (all_from span_from) (as_array found))

-- the keys in the order in which they are checked
unfoldable pub founding_in : Data → Result Founding WireRefusal
founding_in tree = do
  vendor ← key_value id_from faults.Vendor tree
  name ← key_value title_from faults.Name tree
  curators ← key_value (texts_from slug_from most_curators) faults.Curators tree
  licences ← key_value (texts_from title_from most_licences) faults.Licences tree
  fixed ← key_value spans_from faults.Fixed tree
  Ok (record { vendor = vendor; name = name; curators = curators; licences = licences; fixed = fixed })

-- ---- any line of a record

-- an accepted request if there is a field `order`, otherwise a founding
unfoldable pub line_in : Data → Result RecordLine WireRefusal
line_in tree =
    if is_some (get (field_name fields.Order) tree)
    then accepted_line_in tree
    else (do
      founding ← founding_in tree
      Ok (lines.Founding founding))

unfoldable pub record_reading : List ℕ → Result RecordLine WireRefusal
record_reading bytes = do
  tree ← object_of bytes
  line_in tree
