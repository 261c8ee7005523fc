-- The registry after the import of a list.
use Rattle.std.proofs.Common.{◌≡◌, ℕ, ◌≤◌, Bool, true, false, List, [], ◌∷◌, ◌++◌, length, Option, Some, None, Result, Ok, nat_eq, refl, sym, ap, subst, ◌∙◌, inl, inr, arith}
use Rattle.std.specs.Prelude.{not, is_none, is_some, nat_le, if◌then◌else◌, map}
use Rattle.std.specs.Option.{option_map, option_or}
use Rattle.std.specs.List.{list_any}
use Rattle.std.specs.Str.{bytes_eq}
use Rattle.std.proofs.lemmas.Bool.{cases_Bool, eqb-true, ne_eqb}
use Rattle.usbnum_core.specs.Number.{IsId}
use Rattle.usbnum_core.specs.Text.{IsTitle}
use Rattle.usbnum_core.specs.declared.number.Number.{Number}
use Rattle.usbids_text.specs.Entries.{MidEntry, TopEntry}
use Rattle.usbids_text.specs.Finding.{first_mid, find_in, find_mid}
use Rattle.usbids_text.specs.declared.kind.Kind.{Kind}
use Rattle.usbids_text.specs.declared.kind.Kind.TheVariants.{Vendor as OfVendor, Tagged}
use Rattle.usbids_text.proofs.EntryLemmas.{both}
use Rattle.registry_rules.specs.Changes.{entry_imported}
use Rattle.registry_rules.specs.Checks.{import_checks}
use Rattle.registry_rules.specs.History.{History, with_deed}
use Rattle.registry_rules.specs.Import.{classes_from, fresh_of, tally_of}
use Rattle.registry_rules.specs.Number.{number}
use Rattle.registry_rules.specs.Query.{item_of, owner_of, card_of, org_of, has_vendor, vendor_meant, is_reserved, deed_under, holds}
use Rattle.registry_rules.specs.History.{last_of}
use Rattle.registry_rules.specs.Records.{entry_of}
use Rattle.registry_rules.specs.Verdict.{standing_at, outcome, verdict, verdict_by, kept_of, deed_for}
use Rattle.registry_rules.specs.declared.deed.Act.{Act}
use Rattle.registry_rules.specs.declared.deed.Act.TheVariants.{Imported}
use Rattle.registry_rules.specs.declared.deed.Deed.{Deed}
use Rattle.registry_rules.specs.declared.item.Item.{Item}
use Rattle.registry_rules.specs.declared.item.Tally.{Tally}
use Rattle.registry_rules.specs.declared.item.ItemClass.{ItemClass}
use Rattle.registry_rules.specs.declared.order.Request.{Request}
use Rattle.registry_rules.specs.declared.limits.TheConstants.{MOST_ITEMS}
use Rattle.registry_rules.specs.declared.record.Entry.{Entry}
use Rattle.registry_rules.specs.declared.record.Org.{Org}
use Rattle.registry_rules.specs.declared.refusal.Refusal.{Refusal}
use Rattle.registry_rules.specs.declared.verdict.Verdict.TheVariants.{New}
use Rattle.registry_rules.proofs.EntryLemmas.{put_item, imported_entry, unowned_is}
use Rattle.registry_rules.proofs.ImportLemmas.{IsFreshItem}
use Rattle.registry_wire.specs.Decisions.{title_or_not}
use Rattle.registry_wire.specs.Import.{device_item, items_of, import_of}
use Rattle.registry_wire.specs.Kinds.{title_of, where_it_holds}
use Rattle.registry_laws.specs.Imports.{MayImport, AreTitled, AreFree, entry_listed, TakesOver}
use Rattle.registry_laws.proofs.FreshLemmas.{coded, fresh_coded}

-- ---- the items of a list

-- a name as an item
abbrev named : ℕ → List ℕ → Item
named code name = record { code = code; title = title_of name }

held_is : {P : Type 0} (decided : Dec P) (text : List ℕ) → P → where_it_holds decided text ≡ Some text
held_is (yes p) text h = refl
held_is (no not_p) text h = absurd (not_p h)

titled : (name : List ℕ) → IsTitle name → title_of name ≡ Some name
unfolding title_of
titled name is = held_is (title_or_not name) name is

coded_append : (code : ℕ) (a b : List Item) → coded code (a ++ b) ≡ option_or (coded code a) (coded code b)
coded_append code [] b = refl
coded_append code (item ∷ a) b = elim (cases_Bool (nat_eq item.code code)) [ inl e ↦ rw e refl | inr e ↦ rw e (coded_append code a b) ]

mapped_or : {A B : Type 0} (f : A → B) (a b : Option A) → option_map f (option_or a b) ≡ option_or (option_map f a) (option_map f b)
mapped_or f None b = refl
mapped_or f (Some x) b = refl

of_mids : (code : ℕ) (mids : List MidEntry) → coded code (map device_item mids) ≡ option_map (named code) (first_mid code mids)
of_mids code [] = refl
of_mids code (m ∷ mids) = elim (cases_Bool (nat_eq m.code code)) [
  | inl e ↦ rw e (ap (λ (c : ℕ). Some (named c m.name)) (eqb-true m.code code e))
  | inr e ↦ rw e (of_mids code mids)
]

top_items : (vid : ℕ) (kind : Kind) (t : TopEntry) (tops : List TopEntry) → t.kind ≡ kind → (pid : ℕ) → coded pid (items_of vid (t ∷ tops)) ≡ option_or (option_map (named pid) (find_in vid pid t)) (coded pid (items_of vid tops))
top_items vid (Tagged tag) t tops is pid = rw is refl
top_items vid OfVendor t tops is pid = elim (cases_Bool (nat_eq t.code vid)) [
  | inr e ↦ rw (is, e) refl
  | inl e ↦ rw (is, e) (coded_append pid (map device_item t.mids) (items_of vid tops) ∙ ap (λ (o : Option Item). option_or o (coded pid (items_of vid tops))) (of_mids pid t.mids))
]

pub of_list : (vid pid : ℕ) (doc : List TopEntry) → coded pid (items_of vid doc) ≡ option_map (named pid) (find_mid vid pid doc)
of_list vid pid [] = refl
of_list vid pid (t ∷ tops) =
    top_items vid t.kind t tops refl pid
    ∙ (ap (option_or (option_map (named pid) (find_in vid pid t))) (of_list vid pid tops) ∙ sym (mapped_or (named pid) (find_in vid pid t) (find_mid vid pid tops)))

-- ---- each item of the vendor is good

unowned : (owner : Option (List ℕ)) → is_none owner ≡ true → is_some owner ≡ false
unowned None e = refl
unowned (Some org) e = absurd cc

unreserved : (reserved : Bool) → not reserved ≡ true → reserved ≡ false
unreserved true e = absurd cc
unreserved false e = refl

coded_one : (pid : ℕ) → IsId pid → nat_eq pid 0 ≡ false
coded_one pid is = ne_eqb pid 0 (λ e. let a = is.above in omega (arith, e))

good : (h : History) (vid : ℕ) (doc : List TopEntry) → AreTitled vid doc → AreFree h vid doc → (pid : ℕ) (found : Option (List ℕ)) → find_mid vid pid doc ≡ found →
    (item : Item) → option_map (named pid) found ≡ Some item → IsFreshItem (standing_at h vid) item
good h vid doc titles free pid None is item e = absurd cc
good h vid doc titles free pid (Some name) is item e =
    let can = titles pid name is in
    let parts = both (is_none (owner_of h (number vid pid))) (not (is_reserved h (number vid pid))) (free pid (ap is_some is)) in
    let same : named pid name ≡ item = cc in
    subst (λ (i : Item). IsFreshItem (standing_at h vid) i) same (record {
      code = coded_one pid can.0;
      titled = ap is_none (titled name can.1);
      unreserved = unreserved (is_reserved h (number vid pid)) parts.1;
      unowned = unowned (owner_of h (number vid pid)) parts.0;
    })

-- the items that the import takes
abbrev taken : History → ℕ → List TopEntry → List Item
taken h vid doc = fresh_of (classes_from (standing_at h vid) [] (items_of vid doc)) (items_of vid doc)

-- a number in the list, as an item
abbrev listed_item : ℕ → List TopEntry → Number → Option Item
listed_item vid doc n = if nat_eq vid n.vid then option_map (named n.pid) (find_mid vid n.pid doc) else None

taken_is : (h : History) (vid : ℕ) (doc : List TopEntry) → AreTitled vid doc → AreFree h vid doc → (n : Number) → item_of vid (taken h vid doc) n ≡ listed_item vid doc n
taken_is h vid doc titles free n = ap (λ (o : Option Item). if nat_eq vid n.vid then o else None)
    (fresh_coded (standing_at h vid) [] (items_of vid doc) n.pid refl (λ item e. good h vid doc titles free n.pid (find_mid vid n.pid doc) refl item (sym (of_list vid n.pid doc) ∙ e))
    ∙ of_list vid n.pid doc)

-- ---- the entry after the deed

fits_by : (h : History) (vid : ℕ) (doc : List TopEntry) → AreTitled vid doc → AreFree h vid doc → (n : Number) (b : Bool) (found : Option (List ℕ)) → nat_eq vid n.vid ≡ b → find_mid vid n.pid doc ≡ found →
    (item : Item) → (if b then option_map (named n.pid) found else None) ≡ Some item → (owner_of h n ≡ None) × (is_none item.title ≡ false)
fits_by h vid doc titles free n false found v is item e = absurd cc
fits_by h vid doc titles free n true None v is item e = absurd cc
fits_by h vid doc titles free n true (Some name) v is item e =
    let parts = both (is_none (owner_of h (number vid n.pid))) (not (is_reserved h (number vid n.pid))) (free n.pid (ap is_some is)) in
    let here : number vid n.pid ≡ n = ap (λ (w : ℕ). number w n.pid) (eqb-true vid n.vid v) in
    (ap (owner_of h) (sym here) ∙ unowned_is (owner_of h (number vid n.pid)) (unowned (owner_of h (number vid n.pid)) parts.0), (good h vid doc titles free n.pid (Some name) is item e).titled)

put_by : (org : List ℕ) (old : Option Entry) (pid : ℕ) (b : Bool) (found : Option (List ℕ)) → ((name : List ℕ) → found ≡ Some name → IsTitle name) →
    put_item org old (if b then option_map (named pid) found else None) ≡ option_or (if b then option_map (entry_imported org) found else None) old
put_by org old pid false found names = refl
put_by org old pid true None names = refl
put_by org old pid true (Some name) names = ap (λ (t : Option (List ℕ)). option_or (option_map (entry_imported org) t) old) (titled name (names name refl))

-- whether the number is held after the deeds so far
abbrev held_by : History → Number → Option Bool
held_by h n = last_of (λ deed. holds n deed.act) h.deeds

entries_by : (h : History) (vid : ℕ) (org : List ℕ) (doc : List TopEntry) (deed : Deed) (tally : Tally) → AreTitled vid doc → AreFree h vid doc → deed.act ≡ Imported vid org (taken h vid doc) tally →
    (n : Number) → entry_of (with_deed h deed) n ≡ option_or (entry_listed org vid doc n) (entry_of h n)
entries_by h vid org doc deed tally titles free act n =
    ap (λ (a : Act). entry_of (with_deed h (record deed { act = a })) n) act
    ∙ (sym (imported_entry org (owner_of h n) (card_of h n) (held_by h n) (item_of vid (taken h vid doc) n) (λ item e. fits_by h vid doc titles free n (nat_eq vid n.vid) (find_mid vid n.pid doc) refl refl item (sym (taken_is h vid doc titles free n) ∙ e)))
    ∙ (ap (put_item org (entry_of h n)) (taken_is h vid doc titles free n)
    ∙ put_by org (entry_of h n) n.pid (nat_eq vid n.vid) (find_mid vid n.pid doc) (λ name e. (titles n.pid name e).1)))

-- ---- the verdict

import_passes : (curators : List (List ℕ)) (known : Option Org) (there : Bool) (classes : List ItemClass) (caller : List ℕ) (vid : ℕ) (org : List ℕ) (items : List Item) →
    list_any (bytes_eq caller) curators ≡ true → is_some known ≡ true → there ≡ true → length items ≤ MOST_ITEMS →
    import_checks curators known there classes caller vid org items ≡ Ok (Imported vid org (fresh_of classes items) (tally_of classes))
import_passes curators None there classes caller vid org items c k t s = absurd cc
import_passes curators (Some o) there classes caller vid org items c k t s = let short : nat_le (length items) MOST_ITEMS ≡ true = grind arith in rw (c, t, short) refl

new_by : (under : Option Deed) (request : Request) (out : Result Act Refusal) (act : Act) → under ≡ None → out ≡ Ok act → verdict_by (option_map kept_of under) request out ≡ New (deed_for request act)
new_by under request out act u o = ap (λ (k : Option Deed). verdict_by (option_map kept_of k) request out) u ∙ ap (λ (r : Result Act Refusal). verdict_by None request r) o

abbrev act_of : History → List ℕ → ℕ → List TopEntry → Act
act_of h org vid doc = Imported vid org (taken h vid doc) (tally_of (classes_from (standing_at h vid) [] (items_of vid doc)))

new_deed : (h : History) (caller key org : List ℕ) (named : Option ℕ) (doc : List TopEntry) → MayImport h caller key org (vendor_meant h named) (length (items_of (vendor_meant h named) doc)) →
    verdict h (import_of caller key org h.founding.vendor named doc) ≡ New (deed_for (import_of caller key org h.founding.vendor named doc) (act_of h org (vendor_meant h named) doc))
unfolding verdict outcome
new_deed h caller key org named doc may =
    let vid = vendor_meant h named in
    let items = items_of vid doc in
    new_by (deed_under h caller key) (import_of caller key org h.founding.vendor named doc) _ (act_of h org vid doc) may.unused
    (import_passes h.founding.curators (org_of h org) (has_vendor h vid) (classes_from (standing_at h vid) [] items) caller vid org items may.curator may.known may.vendor may.short)

pub takes : TakesOver
takes h caller key org named doc may titles free =
    let request = import_of caller key org h.founding.vendor named doc in
    record {
      deed = deed_for request (act_of h org (vendor_meant h named) doc);
      new = new_deed h caller key org named doc may;
      entries = entries_by h (vendor_meant h named) org doc (deed_for request (act_of h org (vendor_meant h named) doc)) _ titles free refl;
      vendors = λ v. refl;
    }
