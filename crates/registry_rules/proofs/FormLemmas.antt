-- The fields of a canonical form, one by one.
use Rattle.std.proofs.Common.{◌≡◌, ◌≢◌, ◌≤◌, ◌<◌, ◌+◌, ◌^◌, Result, Ok, Err, ℕ, zero, suc, true, false, nat_eq, nat_le, List, [], ◌∷◌, ◌++◌, Option, Some, None, length, take, drop, get_or, refl, sym, ap, ◌∙◌, arith}
use Rattle.std.specs.Prelude.{codes, IfSome, unwrap_or}
use Rattle.std.specs.Fmt.{decimal}
use Rattle.std.specs.List.{AllByRecursion, join_with_byte, list_any}
use Rattle.std.proofs.lemmas.Bool.{or_parts}
use Rattle.std.specs.Str.{IsUtf8}
use Rattle.std.proofs.lemmas.Bool.Decides.{nat_tests}
use Rattle.std.proofs.lemmas.Fmt.{IsAscii-decimal}
use Rattle.std.proofs.lemmas.List.{drop_all}
use Rattle.std.proofs.lemmas.Str.{IsUtf8-from_ascii}
use Rattle.usbnum_core.specs.Utf8.{low_is_utf8}
use Rattle.std.proofs.Math.Seq.{drop-cons}
use Rattle.usbnum_core.specs.Number.{code_of}
use Rattle.usbnum_core.specs.Text.{IsTitle}
use Rattle.registry_rules.specs.Orders.{after_tabs, item_field, fields_of, canonical_form, IsItem, IsOrder}
use Rattle.registry_rules.specs.declared.form_fields.Unread.TheVariants.{NoOrder, NoMemory}
use Rattle.registry_rules.specs.declared.order.Order.{Order}
use Rattle.registry_rules.specs.declared.order.Order.TheVariants as orders
use Rattle.registry_rules.specs.Reading.{HasNoTab, tab_at, first_field, kind_of, after_kind}
use Rattle.registry_rules.specs.declared.item.Item.{Item}
use Rattle.registry_rules.proofs.ReadLemmas.{code_reads, filled, tabless}
use Rattle.registry_rules.proofs.CanonicalFormLemmas.{joined}
use Rattle.usbnum_core.specs.declared.number.Span.{Span}

-- ---- where the first tab is

tab_next : (byte : ℕ) (text : List ℕ) → byte ≢ 9 → tab_at (byte ∷ text) ≡ suc (tab_at text)
tab_next byte text other = let no : nat_eq byte 9 ≡ false = grind (arith, nat_tests) in rw no refl

tab_first : (byte : ℕ) (text : List ℕ) → byte ≡ 9 → tab_at (byte ∷ text) ≡ 0
tab_first byte text is = rw is refl

-- this byte is the first tab
pub tab_here : (text : List ℕ) (i byte : ℕ) → i < length text → byte ≡ get_or text i 0 → byte ≡ 9 → tab_at text ≡ i + tab_at (drop i text) → i ≡ tab_at text
tab_here text i byte lt is nine e =
    let none : tab_at (drop i text) ≡ 0 = ap tab_at (drop-cons text i 0 lt) ∙ tab_first (get_or text i 0) (drop (suc i) text) (sym is ∙ nine) in
    omega (arith, e, none)

-- this byte is none
pub tab_later : (text : List ℕ) (i byte : ℕ) → i < length text → byte ≡ get_or text i 0 → byte ≢ 9 → tab_at text ≡ i + tab_at (drop i text) → tab_at text ≡ suc i + tab_at (drop (suc i) text)
tab_later text i byte lt is other e =
    let one : tab_at (drop i text) ≡ suc (tab_at (drop (suc i) text)) = ap tab_at (drop-cons text i 0 lt) ∙ tab_next (get_or text i 0) (drop (suc i) text) (λ nine. other (is ∙ nine)) in
    omega (arith, e, one)

-- no byte is
pub tab_never : (text : List ℕ) (i : ℕ) → i ≡ length text → tab_at text ≡ i + tab_at (drop i text) → length text ≡ tab_at text
tab_never text i past e =
    let none : tab_at (drop i text) ≡ 0 = ap tab_at (drop_all i text (omega (arith, past))) in
    omega (arith, e, none, past)

-- a text without tabs before further fields ends at the first tab
tab_after : (fields : List (List ℕ)) → tab_at (after_tabs fields) ≡ 0
tab_after [] = refl
tab_after (field ∷ fields) = refl

tab_ends : (field : List ℕ) (fields : List (List ℕ)) → HasNoTab field → tab_at (field ++ after_tabs fields) ≡ length field
tab_ends [] fields none = tab_after fields
tab_ends (byte ∷ field) fields none = tab_next byte (field ++ after_tabs fields) none.0 ∙ ap suc (tab_ends field fields none.1)

take_front : (xs ys : List ℕ) → take (length xs) (xs ++ ys) ≡ xs
take_front [] ys = refl
take_front (x ∷ xs) ys = ap (λ l. x ∷ l) (take_front xs ys)

drop_front : (xs ys : List ℕ) → drop (length xs) (xs ++ ys) ≡ ys
drop_front [] ys = refl
drop_front (x ∷ xs) ys = drop_front xs ys

pub front_field : (text field : List ℕ) (fields : List (List ℕ)) → HasNoTab field → text ≡ field ++ after_tabs fields → take (tab_at text) text ≡ field
front_field text field fields none is =
    ap (λ t. take (tab_at t) t) is ∙ ap (λ n. take n (field ++ after_tabs fields)) (tab_ends field fields none) ∙ take_front field (after_tabs fields)

pub other_fields : (text field : List ℕ) (fields : List (List ℕ)) → HasNoTab field → text ≡ field ++ after_tabs fields → drop (tab_at text) text ≡ after_tabs fields
other_fields text field fields none is =
    ap (λ t. drop (tab_at t) t) is ∙ ap (λ n. drop n (field ++ after_tabs fields)) (tab_ends field fields none) ∙ drop_front field (after_tabs fields)

-- ---- the field of a number

pub decimal_utf8 : (n : ℕ) → n < 2 ^ 32 → IsUtf8 (decimal n)
decimal_utf8 n small = IsUtf8-from_ascii (decimal n) (IsAscii-decimal n (omega arith))

-- ---- the field of an item

pub item_code : (field digits : List ℕ) (found : Option ℕ) (item : Item) → IsItem item → field ≡ item_field item → digits ≡ take 4 field → found ≡ code_of digits → found ≡ Some item.code
item_code field digits found item valid is front e = e ∙ ap code_of (front ∙ ap (take 4) is) ∙ code_reads item.code valid.code

pub item_title : (field named : List ℕ) (equals : ℕ) (title : List ℕ) (item : Item) → field ≡ item_field item → named ≡ drop 4 field → named ≡ equals ∷ title → title ≡ unwrap_or item.title []
item_title field named equals title item is back parts = ap (drop 1) (sym parts ∙ back ∙ ap (drop 4) is)

pub untitled : (title : Option (List ℕ)) (text : List ℕ) → IfSome title IsTitle → text ≡ unwrap_or title [] → length text ≡ 0 → title ≡ None
untitled None text valid is empty = refl
untitled (Some title) text valid is empty = let some : 1 ≤ length title = valid.filled in let same : length text ≡ length title = ap length is in absurd (omega arith)

pub titled : (title : Option (List ℕ)) (text : List ℕ) → IfSome title IsTitle → text ≡ unwrap_or title [] → length text ≢ 0 → (title ≡ Some text) × IsTitle text
titled None text valid is filled = absurd (filled (ap length is))
titled (Some title) text valid is filled = (ap Some (sym is), rw is valid)

pub item_is : (item : Item) (code : ℕ) (title : Option (List ℕ)) → Some code ≡ Some item.code → item.title ≡ title → record { code = code; title = title } ≡ item
item_is item code title same named = let number : code ≡ item.code = cc in rw (number, sym named) refl

-- ---- results

abbrev ok_with : {A : Type 0} → (E : Type 0) → A → Result A E
ok_with E a = Ok a

pub from_ok : {A E : Type 0} (a b : A) (r s : Result A E) → r ≡ Ok a → s ≡ Ok b → r ≡ s → a ≡ b
from_ok {A = A} {E = E} a b r s p q is = let e : ok_with E a ≡ Ok b = sym p ∙ is ∙ q in cc

pub not_ok : {A E : Type 0} (e : E) (b : A) (r : Result A E) → r ≡ Err e → r ≡ Ok b → ⊥
not_ok {A = A} {E = E} e b r p is = absurd (let both : ok_with E b ≡ Err e = sym is ∙ p in cc)

pub same_some : {A : Type 0} (a b : A) → Some a ≡ Some b → a ≡ b
same_some a b is = cc

pub not_some : {A : Type 0} (a : A) (found : Option A) → found ≡ None → Some a ≡ found → ⊥
not_some a found none is = absurd (let both : Some a ≡ None = is ∙ none in cc)

-- ---- spans

pub in_order : (span : Span) (first last : ℕ) → first ≡ span.first → last ≡ span.last → first ≤ last
in_order span first last p q = let ordered : span.first ≤ span.last = span.ordered in omega (arith, p, q)

pub not_true : false ≡ true → ⊥
not_true is = absurd cc

-- ---- the kind of an order and its other fields

split_fields : (fields : List (List ℕ)) (form : List ℕ) → 1 ≤ length fields → AllByRecursion HasNoTab fields → join_with_byte 9 fields ≡ form →
    (take (tab_at form) form ≡ first_field fields) × (drop (tab_at form) form ≡ after_tabs (drop 1 fields)) × AllByRecursion HasNoTab (drop 1 fields)
split_fields [] form filled each is = absurd (omega arith)
split_fields (field ∷ fields) form filled each is =
    let text : form ≡ field ++ after_tabs fields = sym is ∙ joined field fields in
    (front_field form field fields each.0 text, other_fields form field fields each.0 text, each.1)

pub form_parts : (order : Order) (form : List ℕ) → IsOrder order → canonical_form order ≡ form →
    (take (tab_at form) form ≡ kind_of order) × (drop (tab_at form) form ≡ after_kind order) × AllByRecursion HasNoTab (drop 1 (fields_of order))
unfolding canonical_form
form_parts order form valid is = split_fields (fields_of order) form (filled order) (tabless order valid) is

all_low : (text : List ℕ) → list_any (λ byte. nat_le 128 byte) text ≡ false → (i : ℕ) → i < length text → get_or text i 0 < 128
all_low [] low i lt = absurd (omega (arith, lt))
all_low (byte ∷ text) low zero lt = let first = (or_parts (nat_le 128 byte) (list_any (λ byte. nat_le 128 byte) text) low).0 in grind (arith, nat_tests)
all_low (byte ∷ text) low (suc i) lt = all_low text (or_parts (nat_le 128 byte) (list_any (λ byte. nat_le 128 byte) text) low).1 i (omega (arith, lt))

ascii_utf8 : (text : List ℕ) → list_any (λ byte. nat_le 128 byte) text ≡ false → IsUtf8 text
ascii_utf8 text low = low_is_utf8 text (all_low text low)

pub kind_utf8 : (order : Order) → IsUtf8 (kind_of order)
kind_utf8 (orders.Enrol it) = ascii_utf8 (codes "enrol") refl
kind_utf8 (orders.AmendOrg it) = ascii_utf8 (codes "amend-org") refl
kind_utf8 (orders.Ask it) = ascii_utf8 (codes "ask") refl
kind_utf8 (orders.Grant it) = ascii_utf8 (codes "grant") refl
kind_utf8 (orders.Decline it) = ascii_utf8 (codes "decline") refl
kind_utf8 (orders.Withdraw it) = ascii_utf8 (codes "withdraw") refl
kind_utf8 (orders.Amend it) = ascii_utf8 (codes "amend") refl
kind_utf8 (orders.Return it) = ascii_utf8 (codes "return") refl
kind_utf8 (orders.Reserve it) = ascii_utf8 (codes "reserve") refl
kind_utf8 (orders.Release it) = ascii_utf8 (codes "release") refl
kind_utf8 (orders.Import it) = ascii_utf8 (codes "import") refl
kind_utf8 (orders.AddVendor it) = ascii_utf8 (codes "add-vendor") refl
kind_utf8 (orders.AddLicence it) = ascii_utf8 (codes "add-licence") refl
kind_utf8 (orders.HandOver it) = ascii_utf8 (codes "hand-over") refl
kind_utf8 (orders.Correct it) = ascii_utf8 (codes "correct") refl
kind_utf8 (orders.CorrectOrg it) = ascii_utf8 (codes "correct-org") refl
kind_utf8 (orders.Revoke it) = ascii_utf8 (codes "revoke") refl

pub not_both : NoOrder ≡ NoMemory → ⊥
not_both is = absurd cc
