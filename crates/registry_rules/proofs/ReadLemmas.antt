-- An order can be read back from its fields, and no field has a tab.
use Rattle.std.proofs.Common.{◌≡◌, ◌≢◌, ◌≤◌, ◌<◌, ◌+◌, ◌/◌, ◌%◌, ◌^◌, ℕ, List, [], ◌∷◌, ◌++◌, Option, Some, None, Bool, true, false, map, length, drop, refl, ap, sym, ◌∙◌, subst, arith, ⊎_elim, inl, inr}
use Rattle.std.specs.Prelude.{codes, slice_index_or, option_and_then, nat_eq, is_some, unwrap_or, if◌then◌else◌, IfSome, ◌⊎◌}
use Rattle.std.specs.Fmt.{decimal}
use Rattle.std.specs.Char.{digit_value}
use Rattle.std.specs.Str.{bytes_eq}
use Rattle.std.specs.Str.Parse.{digits_value, AllDigits}
use Rattle.std.specs.List.{list_any, AllByRecursion, join_with_byte}
use Rattle.std.proofs.lemmas.Fmt.{decimal_is_IsNumeral}
use Rattle.std.proofs.lemmas.List.Elements.{recursion_from_All}
use Rattle.std.proofs.lemmas.Bool.{or_parts, eqb-false, eq-eqb, and_from, cases_lt, cases_eq}
use Rattle.std.proofs.lemmas.Bool.Decides.{nat_tests}
use Rattle.usbnum_core.specs.Number.{IsId, digits_of, lower_hex_digit, code_of}
use Rattle.usbnum_core.specs.Text.{IsTitle}
use Rattle.usbnum_core.specs.declared.number.Span.{Span}
use Rattle.usbnum_core.proofs.DigitLemmas.{digits_read}
use Rattle.usbnum_core.proofs.SameSpansLemmas.{span_decides}
use Rattle.registry_rules.specs.Orders.{fields_of, canonical_form, number_field, vendor_fields, reason_fields, item_field, IsOrder, IsItem, IsIdIfAny}
use Rattle.registry_rules.specs.Reading.{HasNoTab}
use Rattle.registry_rules.proofs.FieldLemmas.{same_fields, slug_has_no_tab, title_has_no_tab, link_has_no_tab}
use Rattle.registry_rules.specs.declared.item.Item.{Item}
use Rattle.registry_rules.specs.declared.record.Terms.{Terms}
use Rattle.registry_rules.specs.declared.order.Order.{Order}
use Rattle.registry_rules.specs.declared.order.Order.TheVariants as orders

-- The fields have no tab.

fixed_text : (text : List ℕ) → list_any (λ byte. nat_eq byte 9) text ≡ false → HasNoTab text
fixed_text [] e = tt
fixed_text (byte ∷ text) e =
    let both = or_parts (nat_eq byte 9) (list_any (λ byte. nat_eq byte 9) text) e in (eqb-false byte 9 both.0, fixed_text text both.1)

hex_digit : (value : ℕ) → lower_hex_digit value ≢ 9
hex_digit value = λ e. absurd (let below : 48 ≤ lower_hex_digit value = grind (arith, nat_tests) in omega arith)

digits_tabless : (n : ℕ) → HasNoTab (digits_of n)
digits_tabless n = (hex_digit (n / 4096), (hex_digit (n / 256 % 16), (hex_digit (n / 16 % 16), (hex_digit (n % 16), tt))))

digit_byte : (byte : ℕ) → digit_value byte < 10 → byte ≢ 9
digit_byte byte small = λ e. let at_tab : digit_value 9 < 10 = subst (λ b. digit_value b < 10) e small in absurd (omega arith)

numeral_tabless : (text : List ℕ) → AllDigits 10 text → HasNoTab text
numeral_tabless [] each = tt
numeral_tabless (byte ∷ text) each = (digit_byte byte each.0, numeral_tabless text each.1)

decimal_tabless : (n : ℕ) → n < 2 ^ 32 → HasNoTab (decimal n)
decimal_tabless n small = numeral_tabless (decimal n) (decimal_is_IsNumeral n (omega arith)).0.1

named_tabless : (number : Option ℕ) → HasNoTab (number_field number)
named_tabless None = fixed_text (codes "-") refl
named_tabless (Some number) = digits_tabless number

vendor_tabless : (vendor : Option ℕ) (fields : List (List ℕ)) → AllByRecursion HasNoTab fields → AllByRecursion HasNoTab (vendor_fields vendor ++ fields)
vendor_tabless None fields each = each
vendor_tabless (Some vid) fields each = (digits_tabless vid, each)

last_tabless : (vendor : Option ℕ) → AllByRecursion HasNoTab (vendor_fields vendor)
last_tabless None = tt
last_tabless (Some vid) = (digits_tabless vid, tt)

reason_tabless : (reason : Option (List ℕ)) → IfSome reason IsTitle → AllByRecursion HasNoTab (reason_fields reason)
reason_tabless None valid = tt
reason_tabless (Some reason) valid = (title_has_no_tab reason valid, tt)

title_tabless : (title : Option (List ℕ)) → IfSome title IsTitle → HasNoTab (unwrap_or title [])
title_tabless None valid = tt
title_tabless (Some title) valid = title_has_no_tab title valid

item_tabless : (item : Item) → IsItem item → HasNoTab (item_field item)
item_tabless item valid =
    let n = item.code in
    (hex_digit (n / 4096), (hex_digit (n / 256 % 16), (hex_digit (n / 16 % 16), (hex_digit (n % 16), ((λ e. absurd (omega arith)), title_tabless item.title valid.title)))))

items_tabless : (items : List Item) → AllByRecursion IsItem items → AllByRecursion HasNoTab (map item_field items)
items_tabless [] each = tt
items_tabless (item ∷ items) each = (item_tabless item each.0, items_tabless items each.1)

pub tabless : (order : Order) → IsOrder order → AllByRecursion HasNoTab (fields_of order)
tabless (orders.Enrol it) is = (fixed_text (codes "enrol") refl, (slug_has_no_tab it.org is.0, (title_has_no_tab it.title is.1, (link_has_no_tab it.site is.2, tt))))
tabless (orders.AmendOrg it) is = (fixed_text (codes "amend-org") refl, (slug_has_no_tab it.org is.0, (title_has_no_tab it.title is.1, (link_has_no_tab it.site is.2, tt))))
tabless (orders.Ask it) is = (
  fixed_text (codes "ask") refl,
  (
    slug_has_no_tab it.org is.0,
    (
      named_tabless it.want,
      (
        title_has_no_tab it.title is.2,
        (title_has_no_tab it.terms.licence is.3.licence, (link_has_no_tab it.terms.site is.3.site, (link_has_no_tab it.terms.source is.3.source, last_tabless it.vendor))),
      ),
    ),
  ),
)
tabless (orders.Grant it) is = (fixed_text (codes "grant") refl, (decimal_tabless it.petition is.0, (named_tabless it.number, tt)))
tabless (orders.Decline it) is = (fixed_text (codes "decline") refl, (decimal_tabless it.petition is.0, reason_tabless it.reason is.1))
tabless (orders.Withdraw it) is = (fixed_text (codes "withdraw") refl, (decimal_tabless it.petition is, tt))
tabless (orders.Amend it) is = (
  fixed_text (codes "amend") refl,
  (
    digits_tabless it.number,
    (
      title_has_no_tab it.title is.1,
      (title_has_no_tab it.terms.licence is.2.licence, (link_has_no_tab it.terms.site is.2.site, (link_has_no_tab it.terms.source is.2.source, last_tabless it.vendor))),
    ),
  ),
)
tabless (orders.Return it) is = (fixed_text (codes "return") refl, (digits_tabless it.number, last_tabless it.vendor))
tabless (orders.Reserve it) is = (fixed_text (codes "reserve") refl, (digits_tabless it.span.first, (digits_tabless it.span.last, last_tabless it.vendor)))
tabless (orders.Release it) is = (fixed_text (codes "release") refl, (digits_tabless it.span.first, (digits_tabless it.span.last, last_tabless it.vendor)))
tabless (orders.Import it) is =
    (fixed_text (codes "import") refl, (slug_has_no_tab it.org is.0, vendor_tabless it.vendor (map item_field it.items) (items_tabless it.items (recursion_from_All IsItem it.items is.1))))
tabless (orders.AddVendor it) is = (fixed_text (codes "add-vendor") refl, (digits_tabless it.vendor, (title_has_no_tab it.name is.1, tt)))
tabless (orders.AddLicence it) is = (fixed_text (codes "add-licence") refl, (title_has_no_tab it.licence is, tt))
tabless (orders.HandOver it) is = (fixed_text (codes "hand-over") refl, (slug_has_no_tab it.org is.0, (slug_has_no_tab it.keeper is.1, tt)))
tabless (orders.Correct it) is = (
  fixed_text (codes "correct") refl,
  (
    digits_tabless it.number,
    (
      title_has_no_tab it.title is.1,
      (title_has_no_tab it.terms.licence is.2.licence, (link_has_no_tab it.terms.site is.2.site, (link_has_no_tab it.terms.source is.2.source, last_tabless it.vendor))),
    ),
  ),
)
tabless (orders.CorrectOrg it) is = (fixed_text (codes "correct-org") refl, (slug_has_no_tab it.org is.0, (title_has_no_tab it.title is.1, (link_has_no_tab it.site is.2, tt))))
tabless (orders.Revoke it) is = (fixed_text (codes "revoke") refl, (digits_tabless it.number, (title_has_no_tab it.reason is.2, last_tabless it.vendor)))

-- Reading numbers and items.

not_zero : (b : Bool) (c n : ℕ) → (if b then None else Some c) ≡ Some n → Some c ≡ Some n
not_zero true c n e = absurd cc
not_zero false c n e = e

code_by : (found : Option ℕ) (n : ℕ) → option_and_then (λ code. if nat_eq code 0 then None else Some code) found ≡ Some n → found ≡ Some n
code_by None n e = absurd cc
code_by (Some c) n e = not_zero (nat_eq c 0) c n e

pub code_reads : (n : ℕ) → n ≤ 65535 → code_of (digits_of n) ≡ Some n
code_reads n within = ⊎_elim
    (λ (z : n ≡ 0). subst (λ m. code_of (digits_of m) ≡ Some m) (sym z) refl)
    (λ (z : n ≡ 0 → ⊥). code_by (code_of (digits_of n)) n (digits_read n (record { above = omega (arith, z); within = within })))
    (cases_eq n 0)

number_reads : (n : ℕ) → IsId n → unwrap_or (code_of (digits_of n)) 0 ≡ n
number_reads n valid = ap (λ found. unwrap_or found 0) (code_reads n valid.within)

named_reads : (number : Option ℕ) → IsIdIfAny number → code_of (number_field number) ≡ number
named_reads None valid = refl
named_reads (Some number) valid = code_reads number valid.within

-- the field at an index, empty past the end
abbrev at : List (List ℕ) → ℕ → List ℕ
at fields i = slice_index_or fields i []

vendor_reads : (vendor : Option ℕ) → IsIdIfAny vendor → code_of (at (vendor_fields vendor) 0) ≡ vendor
vendor_reads None valid = refl
vendor_reads (Some vid) valid = code_reads vid valid.within

title_read : List ℕ → Option (List ℕ)
title_read [] = None
title_read (byte ∷ text) = Some (byte ∷ text)

title_reads : (title : Option (List ℕ)) → IfSome title IsTitle → title_read (unwrap_or title []) ≡ title
unfolding title_read
title_reads None valid = refl
title_reads (Some []) valid = let some : 1 ≤ length {A = ℕ} [] = valid.filled in absurd (omega arith)
title_reads (Some (byte ∷ text)) valid = refl

reason_reads : (reason : Option (List ℕ)) → IfSome reason IsTitle → title_read (at (reason_fields reason) 0) ≡ reason
reason_reads None valid = title_reads None tt
reason_reads (Some reason) valid = title_reads (Some reason) valid

abbrev new_item : ℕ → Option (List ℕ) → Item
new_item code title = record { code = code; title = title }

abbrev item_read : List ℕ → Item
item_read (a ∷ b ∷ c ∷ d ∷ e ∷ title) = new_item (unwrap_or (code_of (a ∷ b ∷ c ∷ d ∷ [])) 0) (title_read title)
item_read _ = new_item 0 None

item_reads : (item : Item) → IsItem item → item_read (item_field item) ≡ item
item_reads item valid =
    ap (λ found. new_item (unwrap_or found 0) (title_read (unwrap_or item.title []))) (code_reads item.code valid.code)
    ∙ ap (new_item item.code) (title_reads item.title valid.title)

each_reads : (items : List Item) → AllByRecursion IsItem items → map item_read (map item_field items) ≡ items
each_reads [] each = refl
each_reads (item ∷ items) each =
    let first : item_read (item_field item) ≡ item = item_reads item each.0 in
    let rest : map item_read (map item_field items) ≡ items = each_reads items each.1 in
    cc

abbrev items_read : List (List ℕ) → List Item
items_read [] = []
items_read (field ∷ fields) = if is_some (code_of field) then map item_read fields else map item_read (field ∷ fields)

items_are : (vendor : Option ℕ) (items : List Item) → IsIdIfAny vendor → AllByRecursion IsItem items → items_read (vendor_fields vendor ++ map item_field items) ≡ items
items_are None [] valid each = refl
items_are None (item ∷ items) valid each = each_reads (item ∷ items) each
items_are (Some vid) items valid each =
    ap (λ found. if is_some found then map item_read (map item_field items) else map item_read (digits_of vid ∷ map item_field items)) (code_reads vid valid.within)
    ∙ each_reads items each

vendor_is : (vendor : Option ℕ) (items : List Item) → IsIdIfAny vendor → code_of (at (vendor_fields vendor ++ map item_field items) 0) ≡ vendor
vendor_is None [] valid = refl
vendor_is None (item ∷ items) valid = refl
vendor_is (Some vid) items valid = code_reads vid valid.within

abbrev span_from : (first last : ℕ) → (last < first) ⊎ (first ≤ last) → Option Span
span_from first last (inl less) = None
span_from first last (inr ordered) = Some (record { first = first; last = last; ordered = ordered })

pub same_span : (a b : Span) → a.first ≡ b.first → a.last ≡ b.last → a ≡ b
same_span a b p q = (span_decides a b).0 (and_from _ _ (eq-eqb a.first b.first p) (eq-eqb a.last b.last q))

span_is : (span : Span) (order : (span.last < span.first) ⊎ (span.first ≤ span.last)) → span_from span.first span.last order ≡ Some span
span_is span (inl less) = let ordered : span.first ≤ span.last = span.ordered in absurd (omega arith)
span_is span (inr ordered) = ap Some (same_span (record { first = span.first; last = span.last; ordered = ordered }) span refl refl)

abbrev span_read : List ℕ → List ℕ → Option Span
span_read first last = span_from (unwrap_or (code_of first) 0) (unwrap_or (code_of last) 0) (cases_lt (unwrap_or (code_of last) 0) (unwrap_or (code_of first) 0))

span_by : (span : Span) (first last : ℕ) → first ≡ span.first → last ≡ span.last → span_from first last (cases_lt last first) ≡ Some span
span_by span first last p q =
    ap (λ a. span_from a last (cases_lt last a)) p ∙ ap (λ b. span_from span.first b (cases_lt b span.first)) q ∙ span_is span (cases_lt span.last span.first)

span_reads : (span : Span) → IsId span.first → IsId span.last → span_read (digits_of span.first) (digits_of span.last) ≡ Some span
span_reads span p q =
    span_by span (unwrap_or (code_of (digits_of span.first)) 0) (unwrap_or (code_of (digits_of span.last)) 0) (number_reads span.first p) (number_reads span.last q)

-- Reading orders.

-- the order of each kind, from its fields in sequence

abbrev an_enrol : List ℕ → List ℕ → List ℕ → Order
an_enrol org title site = orders.Enrol (record { org = org; title = title; site = site })

abbrev an_org_amendment : List ℕ → List ℕ → List ℕ → Order
an_org_amendment org title site = orders.AmendOrg (record { org = org; title = title; site = site })

abbrev an_ask : List ℕ → Option ℕ → List ℕ → Terms → Option ℕ → Order
an_ask org want title terms vendor = orders.Ask (record { org = org; want = want; title = title; terms = terms; vendor = vendor })

abbrev a_grant : ℕ → Option ℕ → Order
a_grant petition number = orders.Grant (record { petition = petition; number = number })

abbrev a_decline : ℕ → Option (List ℕ) → Order
a_decline petition reason = orders.Decline (record { petition = petition; reason = reason })

abbrev a_withdrawal : ℕ → Order
a_withdrawal petition = orders.Withdraw (record { petition = petition })

abbrev an_amendment : ℕ → List ℕ → Terms → Option ℕ → Order
an_amendment number title terms vendor = orders.Amend (record { number = number; title = title; terms = terms; vendor = vendor })

abbrev a_return : ℕ → Option ℕ → Order
a_return number vendor = orders.Return (record { number = number; vendor = vendor })

abbrev a_reservation : Span → Option ℕ → Order
a_reservation span vendor = orders.Reserve (record { span = span; vendor = vendor })

abbrev a_release : Span → Option ℕ → Order
a_release span vendor = orders.Release (record { span = span; vendor = vendor })

abbrev an_import : List ℕ → List Item → Option ℕ → Order
an_import org items vendor = orders.Import (record { org = org; items = items; vendor = vendor })

abbrev a_vendor : ℕ → List ℕ → Order
a_vendor vendor name = orders.AddVendor (record { vendor = vendor; name = name })

abbrev a_licence : List ℕ → Order
a_licence licence = orders.AddLicence (record { licence = licence })

abbrev a_hand_over : List ℕ → List ℕ → Order
a_hand_over org keeper = orders.HandOver (record { org = org; keeper = keeper })

abbrev a_correction : ℕ → List ℕ → Terms → Option ℕ → Order
a_correction number title terms vendor = orders.Correct (record { number = number; title = title; terms = terms; vendor = vendor })

abbrev an_org_correction : List ℕ → List ℕ → List ℕ → Order
an_org_correction org title site = orders.CorrectOrg (record { org = org; title = title; site = site })

abbrev a_revocation : ℕ → Option ℕ → List ℕ → Order
a_revocation number vendor reason = orders.Revoke (record { number = number; vendor = vendor; reason = reason })

abbrev terms_at : List (List ℕ) → ℕ → Terms
terms_at fields i = record { licence = at fields i; site = at fields (i + 1); source = at fields (i + 2) }

-- the order on a span, if there is one, otherwise some order
abbrev on_span : (Span → Order) → Option Span → Order
on_span make None = a_licence []
on_span make (Some span) = make span

abbrev number_at : List (List ℕ) → ℕ → ℕ
number_at fields i = unwrap_or (code_of (at fields i)) 0

-- reads an order from its fields
abbrev read : List (List ℕ) → Order
read [] = a_licence []
read (name ∷ fields) =
    if bytes_eq name (codes "enrol") then an_enrol (at fields 0) (at fields 1) (at fields 2)
    else if bytes_eq name (codes "amend-org") then an_org_amendment (at fields 0) (at fields 1) (at fields 2)
    else if bytes_eq name (codes "ask") then an_ask (at fields 0) (code_of (at fields 1)) (at fields 2) (terms_at fields 3) (code_of (at fields 6))
    else if bytes_eq name (codes "grant") then a_grant (digits_value 10 (at fields 0)) (code_of (at fields 1))
    else if bytes_eq name (codes "decline") then a_decline (digits_value 10 (at fields 0)) (title_read (at fields 1))
    else if bytes_eq name (codes "withdraw") then a_withdrawal (digits_value 10 (at fields 0))
    else if bytes_eq name (codes "amend") then an_amendment (number_at fields 0) (at fields 1) (terms_at fields 2) (code_of (at fields 5))
    else if bytes_eq name (codes "return") then a_return (number_at fields 0) (code_of (at fields 1))
    else if bytes_eq name (codes "reserve") then on_span (λ span. a_reservation span (code_of (at fields 2))) (span_read (at fields 0) (at fields 1))
    else if bytes_eq name (codes "release") then on_span (λ span. a_release span (code_of (at fields 2))) (span_read (at fields 0) (at fields 1))
    else if bytes_eq name (codes "import") then an_import (at fields 0) (items_read (drop 1 fields)) (code_of (at fields 1))
    else if bytes_eq name (codes "add-vendor") then a_vendor (number_at fields 0) (at fields 1)
    else if bytes_eq name (codes "hand-over") then a_hand_over (at fields 0) (at fields 1)
    else if bytes_eq name (codes "correct") then a_correction (number_at fields 0) (at fields 1) (terms_at fields 2) (code_of (at fields 5))
    else if bytes_eq name (codes "correct-org") then an_org_correction (at fields 0) (at fields 1) (at fields 2)
    else if bytes_eq name (codes "revoke") then a_revocation (number_at fields 0) (code_of (at fields 2)) (at fields 1)
    else a_licence (at fields 0)

petition_reads : (n : ℕ) → n < 2 ^ 32 → digits_value 10 (decimal n) ≡ n
petition_reads n small = (decimal_is_IsNumeral n (omega arith)).1

reads : (order : Order) → IsOrder order → read (fields_of order) ≡ order
reads (orders.Enrol it) is = refl
reads (orders.AmendOrg it) is = refl
reads (orders.Ask it) is =
    ap (λ w. an_ask it.org w it.title it.terms (code_of (at (vendor_fields it.vendor) 0))) (named_reads it.want is.1) ∙ ap (an_ask it.org it.want it.title it.terms) (vendor_reads it.vendor is.4)
reads (orders.Grant it) is = ap (λ p. a_grant p (code_of (number_field it.number))) (petition_reads it.petition is.0) ∙ ap (a_grant it.petition) (named_reads it.number is.1)
reads (orders.Decline it) is =
    ap (λ p. a_decline p (title_read (at (reason_fields it.reason) 0))) (petition_reads it.petition is.0) ∙ ap (a_decline it.petition) (reason_reads it.reason is.1)
reads (orders.Withdraw it) is = ap a_withdrawal (petition_reads it.petition is)
reads (orders.Amend it) is =
    ap (λ n. an_amendment n it.title it.terms (code_of (at (vendor_fields it.vendor) 0))) (number_reads it.number is.0) ∙ ap (an_amendment it.number it.title it.terms) (vendor_reads it.vendor is.3)
reads (orders.Return it) is =
    ap (λ n. a_return n (code_of (at (vendor_fields it.vendor) 0))) (number_reads it.number is.0) ∙ ap (a_return it.number) (vendor_reads it.vendor is.1)
reads (orders.Reserve it) is =
    ap (on_span (λ found. a_reservation found (code_of (at (vendor_fields it.vendor) 0)))) (span_reads it.span is.0 is.1) ∙ ap (a_reservation it.span) (vendor_reads it.vendor is.2)
reads (orders.Release it) is =
    ap (on_span (λ found. a_release found (code_of (at (vendor_fields it.vendor) 0)))) (span_reads it.span is.0 is.1) ∙ ap (a_release it.span) (vendor_reads it.vendor is.2)
reads (orders.Import it) is =
    let each : AllByRecursion IsItem it.items = recursion_from_All IsItem it.items is.1 in
    ap (λ found. an_import it.org found (code_of (at (vendor_fields it.vendor ++ map item_field it.items) 0))) (items_are it.vendor it.items is.2 each)
    ∙ ap (an_import it.org it.items) (vendor_is it.vendor it.items is.2)
reads (orders.AddVendor it) is = ap (λ v. a_vendor v it.name) (number_reads it.vendor is.0)
reads (orders.AddLicence it) is = refl
reads (orders.HandOver it) is = refl
reads (orders.Correct it) is =
    ap (λ n. a_correction n it.title it.terms (code_of (at (vendor_fields it.vendor) 0))) (number_reads it.number is.0) ∙ ap (a_correction it.number it.title it.terms) (vendor_reads it.vendor is.3)
reads (orders.CorrectOrg it) is = refl
reads (orders.Revoke it) is =
    ap (λ n. a_revocation n (code_of (at (vendor_fields it.vendor) 0)) it.reason) (number_reads it.number is.0) ∙ ap (λ v. a_revocation it.number v it.reason) (vendor_reads it.vendor is.1)

-- Orders with the same canonical form are equal.

pub filled : (order : Order) → 1 ≤ length (fields_of order)
filled (orders.Enrol it) = omega arith
filled (orders.AmendOrg it) = omega arith
filled (orders.Ask it) = omega arith
filled (orders.Grant it) = omega arith
filled (orders.Decline it) = omega arith
filled (orders.Withdraw it) = omega arith
filled (orders.Amend it) = omega arith
filled (orders.Return it) = omega arith
filled (orders.Reserve it) = omega arith
filled (orders.Release it) = omega arith
filled (orders.Import it) = omega arith
filled (orders.AddVendor it) = omega arith
filled (orders.AddLicence it) = omega arith
filled (orders.HandOver it) = omega arith
filled (orders.Correct it) = omega arith
filled (orders.CorrectOrg it) = omega arith
filled (orders.Revoke it) = omega arith

same_joined : (xs ys : List (List ℕ)) → 1 ≤ length xs → 1 ≤ length ys → AllByRecursion HasNoTab xs → AllByRecursion HasNoTab ys → join_with_byte 9 xs ≡ join_with_byte 9 ys → xs ≡ ys
same_joined [] ys p q each others e = absurd (omega arith)
same_joined (x ∷ xs) [] p q each others e = absurd (omega arith)
same_joined (x ∷ xs) (y ∷ ys) p q each others e = same_fields x y xs ys each others e

pub own_canonical_form : (a b : Order) → IsOrder a → IsOrder b → canonical_form a ≡ canonical_form b → a ≡ b
unfolding canonical_form
own_canonical_form a b is also e =
    sym (reads a is) ∙ ap read (same_joined (fields_of a) (fields_of b) (filled a) (filled b) (tabless a is) (tabless b also) e) ∙ reads b also
