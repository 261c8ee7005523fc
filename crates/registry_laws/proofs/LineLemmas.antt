-- The lines of a record are read back.
use Rattle.std.proofs.Common.{◌≡◌, ℕ, ◌+◌, ◌/◌, ◌%◌, ◌<◌, ◌^◌, ◌≤◌, Bool, true, false, List, [], ◌∷◌, ◌++◌, Option, Some, None, IfSome, refl, sym, ap, subst, ◌∙◌, arith, inl, inr, Ordering, Less, Equal, Greater, codes}
use Rattle.std.specs.Prelude.{⊤, not, ◌&&◌, Result, Ok, Err, All, map, is_some, bytes_eq}
use Rattle.std.specs.Cmp.Lexicographic.{slice_cmp}
use Rattle.std.specs.Ordering.{nat_cmp, match_ordering, is_lt}
use Rattle.std.specs.Str.{IsUtf8}
use Rattle.std.proofs.lemmas.Bool.{cases_Bool, and_parts, and_from}
use Rattle.std.proofs.lemmas.Bool.Decides.{nat_tests}
use Rattle.std.proofs.lemmas.Str.{IsUtf8-append}
use Rattle.std.proofs.lemmas.List.Elements.{All-head, All-tail}
use Rattle.std.proofs.lemmas.Slice.Eq.{bytes_eq-Decides}
use Rattle.json.proofs.Printed.Utf8.{IsUtf8-are_ascii}
use Rattle.serde_json.specs.Data.{Data, null, string, number, unsigned, array, object, Items, item, Members, no_members, member, put}
use Rattle.serde_json.specs.Find.{get, get_member}
use Rattle.serde_json.specs.Read.{read}
use Rattle.serde_json.specs.View.{items_of}
use Rattle.serde_json.specs.Written.{compact_text}
use Rattle.serde_json.proofs.Views.{get_member-put, get_member-put_other}
use Rattle.usbnum_core.specs.Number.{lower_hex_digit, digits_of, range_text}
use Rattle.usbnum_core.specs.Spans.{IsSpread}
use Rattle.usbnum_core.specs.Text.{IsSlug, IsTitle, IsTime}
use Rattle.usbnum_core.specs.Utf8.{slug_is_utf8, key_is_utf8, link_is_utf8, time_is_utf8, low_is_utf8}
use Rattle.usbnum_core.specs.declared.number.Span.{Span}
use Rattle.usbnum_core.proofs.DigitLemmas.{digits_read}
use Rattle.registry_rules.specs.Checks.{◌>>=◌}
use Rattle.registry_rules.specs.Limits.{most_curators, most_licences}
use Rattle.registry_rules.specs.Orders.{IsTerms, IsItem, IsIdIfAny, IsOrder}
use Rattle.registry_rules.specs.declared.accepted.Accepted.{Accepted}
use Rattle.registry_rules.specs.declared.founding.Founding.{Founding}
use Rattle.registry_rules.specs.declared.item.Item.{Item}
use Rattle.registry_rules.specs.declared.order.Order.{Order}
use Rattle.registry_rules.specs.declared.order.Order.TheVariants as orders
use Rattle.registry_rules.specs.declared.record.Terms.{Terms}
use Rattle.registry_wire.specs.Names.{fault_name}
use Rattle.registry_wire.specs.Reading.{field_name, slug_from, title_from, optional_in, object_of}
use Rattle.registry_wire.specs.Record.{digits_if_named, text_if_given, title_data, item_data, span_data, fields_of_terms, order_fields, accepted_fields, with_fields, accepted_data, accepted_line, founding_keys, with_keys, founding_data, founding_line, key_value, founding_in, line_in, accepted_line_in, record_reading}
use Rattle.registry_wire.specs.declared.field.Field.{Field}
use Rattle.registry_wire.specs.declared.field.Field.TheVariants as fields
use Rattle.registry_wire.specs.declared.record.RecordLine.{RecordLine}
use Rattle.registry_wire.specs.declared.record.RecordLine.TheVariants as lines
use Rattle.registry_wire.specs.declared.refusal.FoundingFault.{FoundingFault}
use Rattle.registry_wire.specs.declared.refusal.FoundingFault.TheVariants as faults
use Rattle.registry_wire.specs.declared.refusal.WireRefusal.{WireRefusal}
use Rattle.registry_wire.proofs.TreeLemmas.{object_of_read}
use Rattle.registry_laws.specs.Records.{IsAccepted, IsValidFounding}
use Rattle.registry_laws.proofs.AcceptedLemmas.{accepted_back}
use Rattle.registry_laws.proofs.KindLemmas.{slug_back, title_back, all_back, texts_back, spans_back}
use Rattle.registry_laws.proofs.TextLemmas.{IsPlain, ArePlain, MembersArePlain, is_first, ascend, turned_back, ascii_utf8, object_utf8, object_read}

-- ---- objects with fields are in order

first_at : (o : Ordering) (l k m : List ℕ) (d e : Data) (ms rest : Members) → slice_cmp nat_cmp l k ≡ Less → is_lt (slice_cmp nat_cmp l m) ≡ true
    → is_first l (match_ordering o (member k d (member m e ms)) (member m d ms) (member m e rest)) ≡ true
first_at Less l k m d e ms rest below first = ap is_lt below
first_at Equal l k m d e ms rest below first = first
first_at Greater l k m d e ms rest below first = first

first_put : (l k : List ℕ) (d : Data) (ms : Members) → slice_cmp nat_cmp l k ≡ Less → is_first l ms ≡ true → is_first l (put k d ms) ≡ true
first_put l k d no_members below first = ap is_lt below
first_put l k d (member m e ms) below first = first_at (slice_cmp nat_cmp k m) l k m d e ms (put k d ms) below first

ascends_at : (o : Ordering) (k l : List ℕ) (d e : Data) (ms : Members) → slice_cmp nat_cmp k l ≡ o → (is_first l ms && ascend ms) ≡ true → ascend (put k d ms) ≡ true
    → ascend (match_ordering o (member k d (member l e ms)) (member l d ms) (member l e (put k d ms))) ≡ true
ascends_at Less k l d e ms is rise rest = and_from (is_lt (slice_cmp nat_cmp k l)) (is_first l ms && ascend ms) (ap is_lt is) rise
ascends_at Equal k l d e ms is rise rest = rise
ascends_at Greater k l d e ms is rise rest =
    and_from (is_first l (put k d ms)) (ascend (put k d ms)) (first_put l k d ms (turned_back k l is) (and_parts (is_first l ms) (ascend ms) rise).0) rest

put_ascends : (k : List ℕ) (d : Data) (ms : Members) → ascend ms ≡ true → ascend (put k d ms) ≡ true
put_ascends k d no_members rise = refl
put_ascends k d (member l e ms) rise = ascends_at (slice_cmp nat_cmp k l) k l d e ms refl rise (put_ascends k d ms (and_parts (is_first l ms) (ascend ms) rise).1)

fields_ascend : (named : List (Field × Data)) (ms : Members) → ascend ms ≡ true → ascend (with_fields named ms) ≡ true
fields_ascend [] ms rise = rise
fields_ascend (first ∷ others) ms rise = fields_ascend others (put (field_name first.0) first.1 ms) (put_ascends (field_name first.0) first.1 ms rise)

keys_ascend : (keys : List (FoundingFault × Data)) (ms : Members) → ascend ms ≡ true → ascend (with_keys keys ms) ≡ true
keys_ascend [] ms rise = rise
keys_ascend (first ∷ others) ms rise = keys_ascend others (put (fault_name first.0) first.1 ms) (put_ascends (fault_name first.0) first.1 ms rise)

-- ---- objects with plain values are plain

plain_at : (o : Ordering) (n : ℕ) (a b c : Members) → MembersArePlain n a → MembersArePlain n b → MembersArePlain n c → MembersArePlain n (match_ordering o a b c)
plain_at Less n a b c x y z = x
plain_at Equal n a b c x y z = y
plain_at Greater n a b c x y z = z

put_plain : (n : ℕ) (k : List ℕ) (d : Data) (ms : Members) → IsUtf8 k → IsPlain n d → MembersArePlain n ms → MembersArePlain n (put k d ms)
put_plain n k d no_members utf8 plain all = (utf8, plain, tt)
put_plain n k d (member l e ms) utf8 plain all =
    plain_at (slice_cmp nat_cmp k l) n (member k d (member l e ms)) (member l d ms) (member l e (put k d ms))
    (utf8, plain, all) (all.0, plain, all.2) (all.0, all.1, put_plain n k d ms utf8 plain all.2)

abbrev ValuesArePlain : {K : Type 0} → ℕ → List (K × Data) → Type 0
ValuesArePlain n [] = ⊤
ValuesArePlain n (first ∷ others) = IsPlain n first.1 × ValuesArePlain n others

field_utf8 : (field : Field) → IsUtf8 (field_name field)
field_utf8 fields.Caller = IsUtf8-are_ascii (codes "caller") refl
field_utf8 fields.Key = IsUtf8-are_ascii (codes "key") refl
field_utf8 fields.Order = IsUtf8-are_ascii (codes "order") refl
field_utf8 fields.Org = IsUtf8-are_ascii (codes "org") refl
field_utf8 fields.Title = IsUtf8-are_ascii (codes "title") refl
field_utf8 fields.Keeper = IsUtf8-are_ascii (codes "keeper") refl
field_utf8 fields.Site = IsUtf8-are_ascii (codes "site") refl
field_utf8 fields.Number = IsUtf8-are_ascii (codes "number") refl
field_utf8 fields.Licence = IsUtf8-are_ascii (codes "licence") refl
field_utf8 fields.Source = IsUtf8-are_ascii (codes "source") refl
field_utf8 fields.Petition = IsUtf8-are_ascii (codes "petition") refl
field_utf8 fields.First = IsUtf8-are_ascii (codes "first") refl
field_utf8 fields.Last = IsUtf8-are_ascii (codes "last") refl
field_utf8 fields.Vendor = IsUtf8-are_ascii (codes "vendor") refl
field_utf8 fields.Reason = IsUtf8-are_ascii (codes "reason") refl
field_utf8 fields.Name = IsUtf8-are_ascii (codes "name") refl
field_utf8 fields.Items = IsUtf8-are_ascii (codes "items") refl
field_utf8 fields.Done = IsUtf8-are_ascii (codes "done") refl
field_utf8 fields.At = IsUtf8-are_ascii (codes "at") refl
field_utf8 fields.Digest = IsUtf8-are_ascii (codes "digest") refl

key_utf8 : (key : FoundingFault) → IsUtf8 (fault_name key)
key_utf8 faults.Toml = IsUtf8-are_ascii (codes "toml") refl
key_utf8 faults.Vendor = IsUtf8-are_ascii (codes "vendor") refl
key_utf8 faults.Name = IsUtf8-are_ascii (codes "name") refl
key_utf8 faults.Curators = IsUtf8-are_ascii (codes "curators") refl
key_utf8 faults.Licences = IsUtf8-are_ascii (codes "licences") refl
key_utf8 faults.Fixed = IsUtf8-are_ascii (codes "fixed") refl

fields_plain : (n : ℕ) (named : List (Field × Data)) (ms : Members) → ValuesArePlain n named → MembersArePlain n ms → MembersArePlain n (with_fields named ms)
fields_plain n [] ms plain all = all
fields_plain n (first ∷ others) ms plain all =
    fields_plain n others (put (field_name first.0) first.1 ms) plain.1 (put_plain n (field_name first.0) first.1 ms (field_utf8 first.0) plain.0 all)

keys_plain : (n : ℕ) (keys : List (FoundingFault × Data)) (ms : Members) → ValuesArePlain n keys → MembersArePlain n ms → MembersArePlain n (with_keys keys ms)
keys_plain n [] ms plain all = all
keys_plain n (first ∷ others) ms plain all =
    keys_plain n others (put (fault_name first.0) first.1 ms) plain.1 (put_plain n (fault_name first.0) first.1 ms (key_utf8 first.0) plain.0 all)

-- ---- the values of valid orders and foundings are plain

hex_low : (value : ℕ) → value < 16 → lower_hex_digit value < 128
hex_low value small = grind (arith, nat_tests)

digits_utf8 : (n : ℕ) → n ≤ 65535 → IsUtf8 (digits_of n)
digits_utf8 n within =
    ascii_utf8 (digits_of n) (hex_low (n / 4096) (omega arith), (hex_low (n / 256 % 16) (omega arith), (hex_low (n / 16 % 16) (omega arith), (hex_low (n % 16) (omega arith), tt))))

all_plain : {A : Type 0} (n : ℕ) (form : A → Data) (Valid : A → Type 0) → ((x : A) → Valid x → IsPlain n (form x)) → (xs : List A) → All Valid xs → ArePlain n (items_of (map form xs))
all_plain n form Valid each [] all = tt
all_plain n form Valid each (x ∷ xs) all = (each x (All-head Valid x xs all), all_plain n form Valid each xs (All-tail Valid x xs all))

title_plain : (title : Option (List ℕ)) → IfSome title IsTitle → IsPlain 0 (title_data title)
title_plain None valid = tt
title_plain (Some title) valid = valid.utf8

item_plain : (it : Item) → IsItem it → IsPlain 1 (item_data it)
item_plain it valid = (digits_utf8 it.code valid.code, (title_plain it.title valid.title, tt))

named_plain : (field : Field) (number : Option ℕ) → IsIdIfAny number → ValuesArePlain 2 (digits_if_named field number)
named_plain field None valid = tt
named_plain field (Some n) valid = (digits_utf8 n valid.within, tt)

reason_plain : (reason : Option (List ℕ)) → IfSome reason IsTitle → ValuesArePlain 2 (text_if_given fields.Reason reason)
reason_plain None valid = tt
reason_plain (Some reason) valid = (valid.utf8, tt)

time_plain : (time : Option (List ℕ)) → IfSome time IsTime → ValuesArePlain 2 (text_if_given fields.At time)
time_plain None valid = tt
time_plain (Some time) valid = (time_is_utf8 time valid, tt)

append_plain : (n : ℕ) (a b : List (Field × Data)) → ValuesArePlain n a → ValuesArePlain n b → ValuesArePlain n (a ++ b)
append_plain n [] b x y = y
append_plain n (first ∷ a) b x y = (x.0, append_plain n a b x.1 y)

terms_plain : (terms : Terms) → IsTerms terms → ValuesArePlain 2 (fields_of_terms terms)
terms_plain terms valid = (valid.licence.utf8, (link_is_utf8 terms.site valid.site, (link_is_utf8 terms.source valid.source, tt)))

order_plain : (order : Order) → IsOrder order → ValuesArePlain 2 (order_fields order)
order_plain (orders.Enrol it) v = (IsUtf8-are_ascii (codes "enrol") refl, (slug_is_utf8 it.org v.0, (v.1.utf8, (link_is_utf8 it.site v.2, tt))))
order_plain (orders.AmendOrg it) v = (IsUtf8-are_ascii (codes "amend-org") refl, (slug_is_utf8 it.org v.0, (v.1.utf8, (link_is_utf8 it.site v.2, tt))))
order_plain (orders.HandOver it) v = (IsUtf8-are_ascii (codes "hand-over") refl, (slug_is_utf8 it.org v.0, (slug_is_utf8 it.keeper v.1, tt)))
order_plain (orders.CorrectOrg it) v = (IsUtf8-are_ascii (codes "correct-org") refl, (slug_is_utf8 it.org v.0, (v.1.utf8, (link_is_utf8 it.site v.2, tt))))
order_plain (orders.Ask it) v =
    let vendor = named_plain fields.Vendor it.vendor v.4 in
    let want = append_plain 2 (digits_if_named fields.Number it.want) (digits_if_named fields.Vendor it.vendor) (named_plain fields.Number it.want v.1) vendor in
    let terms = append_plain 2 (fields_of_terms it.terms) (digits_if_named fields.Number it.want ++ digits_if_named fields.Vendor it.vendor) (terms_plain it.terms v.3) want in
    (IsUtf8-are_ascii (codes "ask") refl, (slug_is_utf8 it.org v.0, (v.2.utf8, terms)))
order_plain (orders.Grant it) v =
    let petition : it.petition < 2 ^ 64 = omega (arith, v.0) in
    (IsUtf8-are_ascii (codes "grant") refl, (petition, named_plain fields.Number it.number v.1))
order_plain (orders.Decline it) v =
    let petition : it.petition < 2 ^ 64 = omega (arith, v.0) in
    (IsUtf8-are_ascii (codes "decline") refl, (petition, reason_plain it.reason v.1))
order_plain (orders.Withdraw it) v = let petition : it.petition < 2 ^ 64 = omega (arith, v) in (IsUtf8-are_ascii (codes "withdraw") refl, (petition, tt))
order_plain (orders.Amend it) v =
    let vendor = named_plain fields.Vendor it.vendor v.3 in
    let terms = append_plain 2 (fields_of_terms it.terms) (digits_if_named fields.Vendor it.vendor) (terms_plain it.terms v.2) vendor in
    (IsUtf8-are_ascii (codes "amend") refl, (digits_utf8 it.number v.0.within, (v.1.utf8, terms)))
order_plain (orders.Return it) v = (IsUtf8-are_ascii (codes "return") refl, (digits_utf8 it.number v.0.within, named_plain fields.Vendor it.vendor v.1))
order_plain (orders.Correct it) v =
    let vendor = named_plain fields.Vendor it.vendor v.3 in
    let terms = append_plain 2 (fields_of_terms it.terms) (digits_if_named fields.Vendor it.vendor) (terms_plain it.terms v.2) vendor in
    (IsUtf8-are_ascii (codes "correct") refl, (digits_utf8 it.number v.0.within, (v.1.utf8, terms)))
order_plain (orders.Revoke it) v = (IsUtf8-are_ascii (codes "revoke") refl, (digits_utf8 it.number v.0.within, (v.2.utf8, named_plain fields.Vendor it.vendor v.1)))
order_plain (orders.Reserve it) v =
    (IsUtf8-are_ascii (codes "reserve") refl, (digits_utf8 it.span.first v.0.within, (digits_utf8 it.span.last v.1.within, named_plain fields.Vendor it.vendor v.2)))
order_plain (orders.Release it) v =
    (IsUtf8-are_ascii (codes "release") refl, (digits_utf8 it.span.first v.0.within, (digits_utf8 it.span.last v.1.within, named_plain fields.Vendor it.vendor v.2)))
order_plain (orders.Import it) v =
    (IsUtf8-are_ascii (codes "import") refl, (slug_is_utf8 it.org v.0, (all_plain 1 item_data IsItem item_plain it.items v.1, named_plain fields.Vendor it.vendor v.2)))
order_plain (orders.AddVendor it) v = (IsUtf8-are_ascii (codes "add-vendor") refl, (digits_utf8 it.vendor v.0.within, (v.1.utf8, tt)))
order_plain (orders.AddLicence it) v = (IsUtf8-are_ascii (codes "add-licence") refl, (v.utf8, tt))

range_low : (first last : ℕ) → first ≤ 65535 → last ≤ 65535 → IsUtf8 (range_text first last)
range_low first last low high = IsUtf8-append (digits_of first) (45 ∷ digits_of last) (digits_utf8 first low) (IsUtf8-append (45 ∷ []) (digits_of last) (IsUtf8-are_ascii _ refl) (digits_utf8 last high))

spans_plain : (start : ℕ) (spans : List Span) → IsSpread start spans → ArePlain 1 (items_of (map span_data spans))
unfolding span_data
spans_plain start [] spread = tt
spans_plain start (span ∷ spans) spread =
    let ordered : span.first ≤ span.last = span.ordered in
    let last : span.last ≤ 65535 = spread.1 in
    (range_low span.first span.last (omega arith) last, spans_plain (span.last + 2) spans spread.2)

-- ---- whole lines

-- a member stays
stays : (q k : List ℕ) (d : Data) (ms : Members) → is_some (get_member q ms) ≡ true → is_some (get_member q (put k d ms)) ≡ true
stays q k d ms has = elim (cases_Bool (bytes_eq q k)) [
  | inl same ↦ let e : q ≡ k = (bytes_eq-Decides q k).0 same in rw e (ap is_some (get_member-put k d ms))
  | inr other ↦ ap is_some (get_member-put_other q k d ms (λ e. let there : bytes_eq q k ≡ true = (bytes_eq-Decides q k).1 e in absurd (let clash = sym there ∙ other in cc))) ∙ has
]

stays_with : (q : List ℕ) (named : List (Field × Data)) (ms : Members) → is_some (get_member q ms) ≡ true → is_some (get_member q (with_fields named ms)) ≡ true
stays_with q [] ms has = has
stays_with q (first ∷ others) ms has = stays_with q others (put (field_name first.0) first.1 ms) (stays q (field_name first.0) first.1 ms has)

abbrev first_value : List (Field × Data) → Data
first_value [] = null
first_value (first ∷ others) = first.1

abbrev later_fields : List (Field × Data) → List (Field × Data)
later_fields [] = []
later_fields (first ∷ others) = others

order_named : (d : Data) (others : List (Field × Data)) (ms : Members) → is_some (get_member (codes "order") (with_fields ((fields.Order, d) ∷ others) ms)) ≡ true
order_named d others ms = stays_with (codes "order") others (put (codes "order") d ms) (ap is_some (get_member-put (codes "order") d ms))

has_order : (order : Order) (ms : Members) → is_some (get_member (codes "order") (with_fields (order_fields order) ms)) ≡ true
has_order (orders.Enrol it) ms = order_named (first_value (order_fields (orders.Enrol it))) (later_fields (order_fields (orders.Enrol it))) ms
has_order (orders.AmendOrg it) ms = order_named (first_value (order_fields (orders.AmendOrg it))) (later_fields (order_fields (orders.AmendOrg it))) ms
has_order (orders.HandOver it) ms = order_named (first_value (order_fields (orders.HandOver it))) (later_fields (order_fields (orders.HandOver it))) ms
has_order (orders.CorrectOrg it) ms = order_named (first_value (order_fields (orders.CorrectOrg it))) (later_fields (order_fields (orders.CorrectOrg it))) ms
has_order (orders.Ask it) ms = order_named (first_value (order_fields (orders.Ask it))) (later_fields (order_fields (orders.Ask it))) ms
has_order (orders.Grant it) ms = order_named (first_value (order_fields (orders.Grant it))) (later_fields (order_fields (orders.Grant it))) ms
has_order (orders.Decline it) ms = order_named (first_value (order_fields (orders.Decline it))) (later_fields (order_fields (orders.Decline it))) ms
has_order (orders.Withdraw it) ms = order_named (first_value (order_fields (orders.Withdraw it))) (later_fields (order_fields (orders.Withdraw it))) ms
has_order (orders.Amend it) ms = order_named (first_value (order_fields (orders.Amend it))) (later_fields (order_fields (orders.Amend it))) ms
has_order (orders.Return it) ms = order_named (first_value (order_fields (orders.Return it))) (later_fields (order_fields (orders.Return it))) ms
has_order (orders.Correct it) ms = order_named (first_value (order_fields (orders.Correct it))) (later_fields (order_fields (orders.Correct it))) ms
has_order (orders.Revoke it) ms = order_named (first_value (order_fields (orders.Revoke it))) (later_fields (order_fields (orders.Revoke it))) ms
has_order (orders.Reserve it) ms = order_named (first_value (order_fields (orders.Reserve it))) (later_fields (order_fields (orders.Reserve it))) ms
has_order (orders.Release it) ms = order_named (first_value (order_fields (orders.Release it))) (later_fields (order_fields (orders.Release it))) ms
has_order (orders.Import it) ms = order_named (first_value (order_fields (orders.Import it))) (later_fields (order_fields (orders.Import it))) ms
has_order (orders.AddVendor it) ms = order_named (first_value (order_fields (orders.AddVendor it))) (later_fields (order_fields (orders.AddVendor it))) ms
has_order (orders.AddLicence it) ms = order_named (first_value (order_fields (orders.AddLicence it))) (later_fields (order_fields (orders.AddLicence it))) ms

has_timed_order : (time : Option (List ℕ)) (order : Order) (ms : Members) → is_some (get_member (codes "order") (with_fields (text_if_given fields.At time ++ order_fields order) ms)) ≡ true
has_timed_order None order ms = has_order order ms
has_timed_order (Some time) order ms = has_order order (put (codes "at") (string time) ms)

accepted_has_order : (accepted : Accepted) → is_some (get (field_name fields.Order) (accepted_data accepted)) ≡ true
unfolding accepted_data
accepted_has_order accepted = has_timed_order accepted.request.time accepted.request.order _

-- ---- no field is a digest

abbrev is_other : Field → Bool
is_other field = not (bytes_eq (codes "digest") (field_name field))

abbrev are_other : List (Field × Data) → Bool
are_other [] = true
are_other (first ∷ others) = is_other first.0 && are_other others

none_with : (named : List (Field × Data)) (ms : Members) → are_other named ≡ true → get_member (codes "digest") ms ≡ None → get_member (codes "digest") (with_fields named ms) ≡ None
none_with [] ms other none = none
none_with (first ∷ others) ms other none =
    let parts = and_parts (is_other first.0) (are_other others) other in
    let apart = λ (e : codes "digest" ≡ field_name first.0). let there : bytes_eq (codes "digest") (field_name first.0) ≡ true = (bytes_eq-Decides (codes "digest") (field_name first.0)).1 e in
    absurd (let clash = rw there at parts.0 in cc) in
    none_with others (put (field_name first.0) first.1 ms) parts.1 (get_member-put_other (codes "digest") (field_name first.0) first.1 ms apart ∙ none)

named_other : (field : Field) (number : Option ℕ) → is_other field ≡ true → are_other (digits_if_named field number) ≡ true
named_other field None other = refl
named_other field (Some n) other = and_from (is_other field) true other refl

text_other : (field : Field) (text : Option (List ℕ)) → is_other field ≡ true → are_other (text_if_given field text) ≡ true
text_other field None other = refl
text_other field (Some text) other = and_from (is_other field) true other refl

ask_other : (want vendor : Option ℕ) → are_other (digits_if_named fields.Number want ++ digits_if_named fields.Vendor vendor) ≡ true
ask_other None vendor = named_other fields.Vendor vendor refl
ask_other (Some n) vendor = named_other fields.Vendor vendor refl

order_other : (order : Order) → are_other (order_fields order) ≡ true
order_other (orders.Enrol it) = refl
order_other (orders.AmendOrg it) = refl
order_other (orders.HandOver it) = refl
order_other (orders.CorrectOrg it) = refl
order_other (orders.Ask it) = ask_other it.want it.vendor
order_other (orders.Grant it) = named_other fields.Number it.number refl
order_other (orders.Decline it) = text_other fields.Reason it.reason refl
order_other (orders.Withdraw it) = refl
order_other (orders.Amend it) = named_other fields.Vendor it.vendor refl
order_other (orders.Return it) = named_other fields.Vendor it.vendor refl
order_other (orders.Correct it) = named_other fields.Vendor it.vendor refl
order_other (orders.Revoke it) = named_other fields.Vendor it.vendor refl
order_other (orders.Reserve it) = named_other fields.Vendor it.vendor refl
order_other (orders.Release it) = named_other fields.Vendor it.vendor refl
order_other (orders.Import it) = named_other fields.Vendor it.vendor refl
order_other (orders.AddVendor it) = refl
order_other (orders.AddLicence it) = refl

timed_other : (time : Option (List ℕ)) (order : Order) → are_other (text_if_given fields.At time ++ order_fields order) ≡ true
timed_other None order = order_other order
timed_other (Some time) order = order_other order

accepted_has_no_digest : (accepted : Accepted) → get (field_name fields.Digest) (accepted_data accepted) ≡ None
unfolding accepted_data
accepted_has_no_digest accepted = none_with (accepted_fields accepted) no_members (timed_other accepted.request.time accepted.request.order) refl

accepted_in_line : (accepted : Accepted) → IsAccepted accepted → line_in (accepted_data accepted) ≡ Ok (lines.Accepted accepted None)
unfolding line_in accepted_line_in optional_in
accepted_in_line accepted valid = rw (accepted_has_order accepted, accepted_back accepted valid, accepted_has_no_digest accepted) refl

object_is : (ms : Members) → MembersArePlain 2 ms → ascend ms ≡ true → object_of (compact_text (object ms)) ≡ Ok (object ms)
object_is ms plain rise = object_of_read (compact_text (object ms)) (object ms) (object_utf8 2 ms plain) (object_read 2 ms (omega arith) plain rise)

accepted_object : (accepted : Accepted) → IsAccepted accepted → object_of (accepted_line accepted) ≡ Ok (accepted_data accepted)
unfolding accepted_data
accepted_object accepted valid =
    let request = accepted.request in
    let named = append_plain 2 (text_if_given fields.At request.time) (order_fields request.order) (time_plain request.time valid.time) (order_plain request.order valid.order) in
    let values : ValuesArePlain 2 (accepted_fields accepted) = (slug_is_utf8 request.caller valid.caller, (key_is_utf8 request.key valid.key, (valid.reply, named))) in
    object_is (with_fields (accepted_fields accepted) no_members) (fields_plain 2 (accepted_fields accepted) no_members values tt) (fields_ascend (accepted_fields accepted) no_members refl)

pub accepted_read : (accepted : Accepted) → IsAccepted accepted → record_reading (accepted_line accepted) ≡ Ok (lines.Accepted accepted None)
unfolding record_reading
accepted_read accepted valid = ap (λ (found : Result Data WireRefusal). found >>= line_in) (accepted_object accepted valid) ∙ accepted_in_line accepted valid

founding_back : (founding : Founding) → IsValidFounding founding → founding_in (founding_data founding) ≡ Ok founding
unfolding founding_in founding_data key_value
founding_back founding valid =
    let slugs = all_back slug_from string IsSlug (λ text h. slug_back text h) founding.curators valid.slugs in
    let titles = all_back title_from string IsTitle (λ text h. title_back text h) founding.licences valid.titles in
    rw (
      digits_read founding.vendor valid.vendor,
      title_back founding.name valid.name,
      texts_back slug_from most_curators founding.curators slugs valid.curators.some valid.curators.most valid.curators.ascending,
      texts_back title_from most_licences founding.licences titles valid.licences.some valid.licences.most valid.licences.ascending,
      spans_back founding.fixed valid.fixed,
    ) refl

founding_has_none : (founding : Founding) → is_some (get (field_name fields.Order) (founding_data founding)) ≡ false
unfolding founding_data
founding_has_none founding = refl

founding_in_line : (founding : Founding) → IsValidFounding founding → line_in (founding_data founding) ≡ Ok (lines.Founding founding)
unfolding line_in
founding_in_line founding valid = rw (founding_has_none founding, founding_back founding valid) refl

founding_object : (founding : Founding) → IsValidFounding founding → object_of (founding_line founding) ≡ Ok (founding_data founding)
unfolding founding_data
founding_object founding valid =
    let slugs = all_plain 1 string IsSlug (λ text h. slug_is_utf8 text h) founding.curators valid.slugs in
    let titles = all_plain 1 string IsTitle (λ text h. h.utf8) founding.licences valid.titles in
    let values : ValuesArePlain 2 (founding_keys founding) = (digits_utf8 founding.vendor valid.vendor.within, (valid.name.utf8, (slugs, (titles, (spans_plain 1 founding.fixed valid.fixed, tt))))) in
    object_is (with_keys (founding_keys founding) no_members) (keys_plain 2 (founding_keys founding) no_members values tt) (keys_ascend (founding_keys founding) no_members refl)

pub founding_read : (founding : Founding) → IsValidFounding founding → record_reading (founding_line founding) ≡ Ok (lines.Founding founding)
unfolding record_reading
founding_read founding valid = ap (λ (found : Result Data WireRefusal). found >>= line_in) (founding_object founding valid) ∙ founding_in_line founding valid
