-- The accepted request in the object that is written for it.
use Rattle.std.proofs.Common.{◌≡◌, ℕ, ◌<◌, ◌^◌, List, Option, Some, None, true, refl, arith}
use Rattle.std.specs.Prelude.{All, Ok, nat_le, IfSome}
use Rattle.std.proofs.lemmas.Bool.{le-leb}
use Rattle.serde_json.specs.Data.{object, no_members}
use Rattle.usbnum_core.specs.Number.{IsId}
use Rattle.usbnum_core.specs.Text.{IsSlug, IsKey, IsTitle, IsLink, IsTime}
use Rattle.usbnum_core.specs.declared.number.Span.{Span}
use Rattle.usbnum_core.proofs.DigitLemmas.{digits_read}
use Rattle.registry_rules.specs.Limits.{greatest_count}
use Rattle.registry_rules.specs.Orders.{IsTerms, IsItem, IsIdIfAny, IsOrder}
use Rattle.registry_rules.specs.declared.accepted.Accepted.{Accepted}
use Rattle.registry_rules.specs.declared.item.Item.{Item}
use Rattle.registry_rules.specs.declared.order.Order.{Order}
use Rattle.registry_rules.specs.declared.order.Order.TheVariants as orders
use Rattle.registry_rules.specs.declared.record.Terms.{Terms}
use Rattle.registry_wire.specs.Reading.{field_in, optional_in, link_in, petition_in, span_in, terms_in, enrol_in, amend_org_in, hand_over_in, correct_org_in, ask_in, grant_in, decline_in, withdraw_in, amend_in, return_in, correct_in, revoke_in, reserve_in, release_in, add_vendor_in, add_licence_in, order_in}
use Rattle.registry_wire.specs.Record.{accepted_fields, with_fields, accepted_data, kept_import_in, kept_order_in, kept_request_in}
use Rattle.registry_laws.specs.Records.{IsAccepted}
use Rattle.registry_laws.proofs.KindLemmas.{slug_back, key_back, title_back, time_back, link_back, span_back, items_back}

abbrev made : List ℕ → List ℕ → List ℕ → Option (List ℕ) → Order → Accepted
made caller key reply time order = record { request = record { caller = caller; key = key; order = order; time = time }; reply = reply }

-- the object that is written for the order is read as that order, with its caller, key, reply and time
abbrev IsReadBack : Order → Type 0
IsReadBack order = (caller key reply : List ℕ) (time : Option (List ℕ)) → IsSlug caller → IsKey key → IfSome time IsTime →
    kept_request_in (object (with_fields (accepted_fields (made caller key reply time order)) no_members)) ≡ Ok (made caller key reply time order)

small : (petition : ℕ) → petition < 2 ^ 32 → nat_le petition greatest_count ≡ true
small petition h = le-leb petition greatest_count (omega arith)

from_none : (petition : ℕ) → nat_le 0 petition ≡ true
from_none petition = le-leb 0 petition (omega arith)

enrol_back : (org title site : List ℕ) → IsSlug org → IsTitle title → IsLink site → IsReadBack (orders.Enrol (record { org = org; title = title; site = site }))
unfolding kept_request_in kept_order_in order_in field_in enrol_in link_in optional_in
enrol_back org title site o t s caller key reply None c k m = rw (slug_back caller c, key_back key k, slug_back org o, title_back title t, link_back site s) refl
enrol_back org title site o t s caller key reply (Some time) c k m = rw (slug_back caller c, key_back key k, slug_back org o, title_back title t, link_back site s, time_back time m) refl

amend_org_back : (org title site : List ℕ) → IsSlug org → IsTitle title → IsLink site → IsReadBack (orders.AmendOrg (record { org = org; title = title; site = site }))
unfolding kept_request_in kept_order_in order_in field_in amend_org_in link_in optional_in
amend_org_back org title site o t s caller key reply None c k m = rw (slug_back caller c, key_back key k, slug_back org o, title_back title t, link_back site s) refl
amend_org_back org title site o t s caller key reply (Some time) c k m = rw (slug_back caller c, key_back key k, slug_back org o, title_back title t, link_back site s, time_back time m) refl

hand_over_back : (org keeper : List ℕ) → IsSlug org → IsSlug keeper → IsReadBack (orders.HandOver (record { org = org; keeper = keeper }))
unfolding kept_request_in kept_order_in order_in field_in hand_over_in optional_in
hand_over_back org keeper o p caller key reply None c k m = rw (slug_back caller c, key_back key k, slug_back org o, slug_back keeper p) refl
hand_over_back org keeper o p caller key reply (Some time) c k m = rw (slug_back caller c, key_back key k, slug_back org o, slug_back keeper p, time_back time m) refl

correct_org_back : (org title site : List ℕ) → IsSlug org → IsTitle title → IsLink site → IsReadBack (orders.CorrectOrg (record { org = org; title = title; site = site }))
unfolding kept_request_in kept_order_in order_in field_in correct_org_in link_in optional_in
correct_org_back org title site o t s caller key reply None c k m = rw (slug_back caller c, key_back key k, slug_back org o, title_back title t, link_back site s) refl
correct_org_back org title site o t s caller key reply (Some time) c k m = rw (slug_back caller c, key_back key k, slug_back org o, title_back title t, link_back site s, time_back time m) refl

ask_back : (org title licence site source : List ℕ) (want vendor : Option ℕ) → IsSlug org → IsTitle title → IsTitle licence → IsLink site → IsLink source → IsIdIfAny want → IsIdIfAny vendor
    → IsReadBack (orders.Ask (record { org = org; want = want; title = title; terms = record { licence = licence; site = site; source = source }; vendor = vendor }))
unfolding kept_request_in kept_order_in order_in field_in ask_in terms_in link_in optional_in
ask_back org title licence site source None None o t l s u w v caller key reply None c k m =
    rw (slug_back caller c, key_back key k, slug_back org o, title_back title t, title_back licence l, link_back site s, link_back source u) refl
ask_back org title licence site source None None o t l s u w v caller key reply (Some time) c k m =
    rw (slug_back caller c, key_back key k, slug_back org o, title_back title t, title_back licence l, link_back site s, link_back source u, time_back time m) refl
ask_back org title licence site source (Some pid) None o t l s u w v caller key reply None c k m =
    rw (slug_back caller c, key_back key k, slug_back org o, digits_read pid w, title_back title t, title_back licence l, link_back site s, link_back source u) refl
ask_back org title licence site source (Some pid) None o t l s u w v caller key reply (Some time) c k m =
    rw (slug_back caller c, key_back key k, slug_back org o, digits_read pid w, title_back title t, title_back licence l, link_back site s, link_back source u, time_back time m) refl
ask_back org title licence site source None (Some vid) o t l s u w v caller key reply None c k m =
    rw (slug_back caller c, key_back key k, slug_back org o, title_back title t, title_back licence l, link_back site s, link_back source u, digits_read vid v) refl
ask_back org title licence site source None (Some vid) o t l s u w v caller key reply (Some time) c k m =
    rw (slug_back caller c, key_back key k, slug_back org o, title_back title t, title_back licence l, link_back site s, link_back source u, digits_read vid v, time_back time m) refl
ask_back org title licence site source (Some pid) (Some vid) o t l s u w v caller key reply None c k m =
    rw (slug_back caller c, key_back key k, slug_back org o, digits_read pid w, title_back title t, title_back licence l, link_back site s, link_back source u, digits_read vid v) refl
ask_back org title licence site source (Some pid) (Some vid) o t l s u w v caller key reply (Some time) c k m =
    rw (slug_back caller c, key_back key k, slug_back org o, digits_read pid w, title_back title t, title_back licence l, link_back site s, link_back source u, digits_read vid v, time_back time m) refl

grant_back : (petition : ℕ) (number : Option ℕ) → petition < 2 ^ 32 → IsIdIfAny number → IsReadBack (orders.Grant (record { petition = petition; number = number }))
unfolding kept_request_in kept_order_in order_in field_in grant_in petition_in optional_in
grant_back petition None p n caller key reply None c k m = rw (slug_back caller c, key_back key k, from_none petition, small petition p) refl
grant_back petition None p n caller key reply (Some time) c k m = rw (slug_back caller c, key_back key k, from_none petition, small petition p, time_back time m) refl
grant_back petition (Some pid) p n caller key reply None c k m = rw (slug_back caller c, key_back key k, from_none petition, small petition p, digits_read pid n) refl
grant_back petition (Some pid) p n caller key reply (Some time) c k m = rw (slug_back caller c, key_back key k, from_none petition, small petition p, digits_read pid n, time_back time m) refl

decline_back : (petition : ℕ) (reason : Option (List ℕ)) → petition < 2 ^ 32 → IfSome reason IsTitle → IsReadBack (orders.Decline (record { petition = petition; reason = reason }))
unfolding kept_request_in kept_order_in order_in field_in decline_in petition_in optional_in
decline_back petition None p r caller key reply None c k m = rw (slug_back caller c, key_back key k, from_none petition, small petition p) refl
decline_back petition None p r caller key reply (Some time) c k m = rw (slug_back caller c, key_back key k, from_none petition, small petition p, time_back time m) refl
decline_back petition (Some reason) p r caller key reply None c k m = rw (slug_back caller c, key_back key k, from_none petition, small petition p, title_back reason r) refl
decline_back petition (Some reason) p r caller key reply (Some time) c k m =
    rw (slug_back caller c, key_back key k, from_none petition, small petition p, title_back reason r, time_back time m) refl

withdraw_back : (petition : ℕ) → petition < 2 ^ 32 → IsReadBack (orders.Withdraw (record { petition = petition }))
unfolding kept_request_in kept_order_in order_in field_in withdraw_in petition_in optional_in
withdraw_back petition p caller key reply None c k m = rw (slug_back caller c, key_back key k, from_none petition, small petition p) refl
withdraw_back petition p caller key reply (Some time) c k m = rw (slug_back caller c, key_back key k, from_none petition, small petition p, time_back time m) refl

amend_back : (number : ℕ) (title licence site source : List ℕ) (vendor : Option ℕ) → IsId number → IsTitle title → IsTitle licence → IsLink site → IsLink source → IsIdIfAny vendor
    → IsReadBack (orders.Amend (record { number = number; title = title; terms = record { licence = licence; site = site; source = source }; vendor = vendor }))
unfolding kept_request_in kept_order_in order_in field_in amend_in terms_in link_in optional_in
amend_back number title licence site source None n t l s u v caller key reply None c k m =
    rw (slug_back caller c, key_back key k, digits_read number n, title_back title t, title_back licence l, link_back site s, link_back source u) refl
amend_back number title licence site source None n t l s u v caller key reply (Some time) c k m =
    rw (slug_back caller c, key_back key k, digits_read number n, title_back title t, title_back licence l, link_back site s, link_back source u, time_back time m) refl
amend_back number title licence site source (Some vid) n t l s u v caller key reply None c k m =
    rw (slug_back caller c, key_back key k, digits_read number n, title_back title t, title_back licence l, link_back site s, link_back source u, digits_read vid v) refl
amend_back number title licence site source (Some vid) n t l s u v caller key reply (Some time) c k m =
    rw (slug_back caller c, key_back key k, digits_read number n, title_back title t, title_back licence l, link_back site s, link_back source u, digits_read vid v, time_back time m) refl

return_back : (number : ℕ) (vendor : Option ℕ) → IsId number → IsIdIfAny vendor → IsReadBack (orders.Return (record { number = number; vendor = vendor }))
unfolding kept_request_in kept_order_in order_in field_in return_in optional_in
return_back number None n v caller key reply None c k m = rw (slug_back caller c, key_back key k, digits_read number n) refl
return_back number None n v caller key reply (Some time) c k m = rw (slug_back caller c, key_back key k, digits_read number n, time_back time m) refl
return_back number (Some vid) n v caller key reply None c k m = rw (slug_back caller c, key_back key k, digits_read number n, digits_read vid v) refl
return_back number (Some vid) n v caller key reply (Some time) c k m = rw (slug_back caller c, key_back key k, digits_read number n, digits_read vid v, time_back time m) refl

correct_back : (number : ℕ) (title licence site source : List ℕ) (vendor : Option ℕ) → IsId number → IsTitle title → IsTitle licence → IsLink site → IsLink source → IsIdIfAny vendor
    → IsReadBack (orders.Correct (record { number = number; title = title; terms = record { licence = licence; site = site; source = source }; vendor = vendor }))
unfolding kept_request_in kept_order_in order_in field_in correct_in terms_in link_in optional_in
correct_back number title licence site source None n t l s u v caller key reply None c k m =
    rw (slug_back caller c, key_back key k, digits_read number n, title_back title t, title_back licence l, link_back site s, link_back source u) refl
correct_back number title licence site source None n t l s u v caller key reply (Some time) c k m =
    rw (slug_back caller c, key_back key k, digits_read number n, title_back title t, title_back licence l, link_back site s, link_back source u, time_back time m) refl
correct_back number title licence site source (Some vid) n t l s u v caller key reply None c k m =
    rw (slug_back caller c, key_back key k, digits_read number n, title_back title t, title_back licence l, link_back site s, link_back source u, digits_read vid v) refl
correct_back number title licence site source (Some vid) n t l s u v caller key reply (Some time) c k m =
    rw (slug_back caller c, key_back key k, digits_read number n, title_back title t, title_back licence l, link_back site s, link_back source u, digits_read vid v, time_back time m) refl

revoke_back : (number : ℕ) (reason : List ℕ) (vendor : Option ℕ) → IsId number → IsTitle reason → IsIdIfAny vendor → IsReadBack (orders.Revoke (record { number = number; reason = reason; vendor = vendor }))
unfolding kept_request_in kept_order_in order_in field_in revoke_in optional_in
revoke_back number reason None n r v caller key reply None c k m = rw (slug_back caller c, key_back key k, digits_read number n, title_back reason r) refl
revoke_back number reason None n r v caller key reply (Some time) c k m = rw (slug_back caller c, key_back key k, digits_read number n, title_back reason r, time_back time m) refl
revoke_back number reason (Some vid) n r v caller key reply None c k m = rw (slug_back caller c, key_back key k, digits_read number n, title_back reason r, digits_read vid v) refl
revoke_back number reason (Some vid) n r v caller key reply (Some time) c k m =
    rw (slug_back caller c, key_back key k, digits_read number n, title_back reason r, digits_read vid v, time_back time m) refl

reserve_back : (span : Span) (vendor : Option ℕ) → IsId span.first → IsId span.last → IsIdIfAny vendor → IsReadBack (orders.Reserve (record { span = span; vendor = vendor }))
unfolding kept_request_in kept_order_in order_in field_in reserve_in span_in optional_in
reserve_back span None f l v caller key reply None c k m = rw (slug_back caller c, key_back key k, digits_read span.first f, digits_read span.last l, span_back span) refl
reserve_back span None f l v caller key reply (Some time) c k m = rw (slug_back caller c, key_back key k, digits_read span.first f, digits_read span.last l, span_back span, time_back time m) refl
reserve_back span (Some vid) f l v caller key reply None c k m = rw (slug_back caller c, key_back key k, digits_read span.first f, digits_read span.last l, span_back span, digits_read vid v) refl
reserve_back span (Some vid) f l v caller key reply (Some time) c k m =
    rw (slug_back caller c, key_back key k, digits_read span.first f, digits_read span.last l, span_back span, digits_read vid v, time_back time m) refl

release_back : (span : Span) (vendor : Option ℕ) → IsId span.first → IsId span.last → IsIdIfAny vendor → IsReadBack (orders.Release (record { span = span; vendor = vendor }))
unfolding kept_request_in kept_order_in order_in field_in release_in span_in optional_in
release_back span None f l v caller key reply None c k m = rw (slug_back caller c, key_back key k, digits_read span.first f, digits_read span.last l, span_back span) refl
release_back span None f l v caller key reply (Some time) c k m = rw (slug_back caller c, key_back key k, digits_read span.first f, digits_read span.last l, span_back span, time_back time m) refl
release_back span (Some vid) f l v caller key reply None c k m = rw (slug_back caller c, key_back key k, digits_read span.first f, digits_read span.last l, span_back span, digits_read vid v) refl
release_back span (Some vid) f l v caller key reply (Some time) c k m =
    rw (slug_back caller c, key_back key k, digits_read span.first f, digits_read span.last l, span_back span, digits_read vid v, time_back time m) refl

import_back : (org : List ℕ) (items : List Item) (vendor : Option ℕ) → IsSlug org → All IsItem items → IsIdIfAny vendor → IsReadBack (orders.Import (record { org = org; items = items; vendor = vendor }))
unfolding kept_request_in kept_order_in field_in kept_import_in optional_in
import_back org items None o i v caller key reply None c k m = rw (slug_back caller c, key_back key k, slug_back org o, items_back items i) refl
import_back org items None o i v caller key reply (Some time) c k m = rw (slug_back caller c, key_back key k, slug_back org o, items_back items i, time_back time m) refl
import_back org items (Some vid) o i v caller key reply None c k m = rw (slug_back caller c, key_back key k, slug_back org o, items_back items i, digits_read vid v) refl
import_back org items (Some vid) o i v caller key reply (Some time) c k m = rw (slug_back caller c, key_back key k, slug_back org o, items_back items i, digits_read vid v, time_back time m) refl

add_vendor_back : (vendor : ℕ) (name : List ℕ) → IsId vendor → IsTitle name → IsReadBack (orders.AddVendor (record { vendor = vendor; name = name }))
unfolding kept_request_in kept_order_in order_in field_in add_vendor_in optional_in
add_vendor_back vendor name v n caller key reply None c k m = rw (slug_back caller c, key_back key k, digits_read vendor v, title_back name n) refl
add_vendor_back vendor name v n caller key reply (Some time) c k m = rw (slug_back caller c, key_back key k, digits_read vendor v, title_back name n, time_back time m) refl

add_licence_back : (licence : List ℕ) → IsTitle licence → IsReadBack (orders.AddLicence (record { licence = licence }))
unfolding kept_request_in kept_order_in order_in field_in add_licence_in optional_in
add_licence_back licence l caller key reply None c k m = rw (slug_back caller c, key_back key k, title_back licence l) refl
add_licence_back licence l caller key reply (Some time) c k m = rw (slug_back caller c, key_back key k, title_back licence l, time_back time m) refl

order_back : (order : Order) → IsOrder order → IsReadBack order
order_back (orders.Enrol it) v = enrol_back it.org it.title it.site v.0 v.1 v.2
order_back (orders.AmendOrg it) v = amend_org_back it.org it.title it.site v.0 v.1 v.2
order_back (orders.HandOver it) v = hand_over_back it.org it.keeper v.0 v.1
order_back (orders.CorrectOrg it) v = correct_org_back it.org it.title it.site v.0 v.1 v.2
order_back (orders.Ask it) v = ask_back it.org it.title it.terms.licence it.terms.site it.terms.source it.want it.vendor v.0 v.2 v.3.licence v.3.site v.3.source v.1 v.4
order_back (orders.Grant it) v = grant_back it.petition it.number v.0 v.1
order_back (orders.Decline it) v = decline_back it.petition it.reason v.0 v.1
order_back (orders.Withdraw it) v = withdraw_back it.petition v
order_back (orders.Amend it) v = amend_back it.number it.title it.terms.licence it.terms.site it.terms.source it.vendor v.0 v.1 v.2.licence v.2.site v.2.source v.3
order_back (orders.Return it) v = return_back it.number it.vendor v.0 v.1
order_back (orders.Correct it) v = correct_back it.number it.title it.terms.licence it.terms.site it.terms.source it.vendor v.0 v.1 v.2.licence v.2.site v.2.source v.3
order_back (orders.Revoke it) v = revoke_back it.number it.reason it.vendor v.0 v.2 v.1
order_back (orders.Reserve it) v = reserve_back it.span it.vendor v.0 v.1 v.2
order_back (orders.Release it) v = release_back it.span it.vendor v.0 v.1 v.2
order_back (orders.Import it) v = import_back it.org it.items it.vendor v.0 v.1 v.2
order_back (orders.AddVendor it) v = add_vendor_back it.vendor it.name v.0 v.1
order_back (orders.AddLicence it) v = add_licence_back it.licence v

pub accepted_back : (accepted : Accepted) → IsAccepted accepted → kept_request_in (accepted_data accepted) ≡ Ok accepted
unfolding accepted_data
accepted_back accepted valid = order_back accepted.request.order valid.order accepted.request.caller accepted.request.key accepted.reply accepted.request.time valid.caller valid.key valid.time
