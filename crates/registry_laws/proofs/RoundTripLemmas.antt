-- A list that is exported and imported again stays the same.
use Rattle.std.proofs.Common.{◌≡◌, ℕ, Bool, true, false, List, [], ◌∷◌, Option, Some, None, nat_eq, refl, sym, ap, subst, ◌∙◌, inl, inr}
use Rattle.std.specs.Prelude.{is_some, if◌then◌else◌, All}
use Rattle.std.specs.Option.{option_map, option_or}
use Rattle.std.proofs.lemmas.Bool.{cases_Bool, eqb-true, eqb-false, ne_eqb}
use Rattle.std.proofs.lemmas.List.Elements.{All-head, All-tail}
use Rattle.usbnum_core.specs.Number.{IsId}
use Rattle.usbnum_core.specs.Text.{IsTitle}
use Rattle.usbnum_core.specs.declared.number.Number.{Number}
use Rattle.usbids_text.specs.Entries.{MidEntry, TopEntry}
use Rattle.usbids_text.specs.Finding.{first_mid, find_in, find_mid}
use Rattle.usbids_text.specs.declared.kind.Kind.{Kind}
use Rattle.usbids_text.specs.declared.kind.Kind.TheVariants.{Vendor as OfVendor, Tagged}
use Rattle.registry_rules.specs.Changes.{entry_imported}
use Rattle.registry_rules.specs.History.{History, with_deed}
use Rattle.registry_rules.specs.Number.{number}
use Rattle.registry_rules.specs.Query.{vendor_of, has_vendor, vendor_meant}
use Rattle.registry_rules.specs.Records.{entry_of}
use Rattle.registry_rules.specs.Run.{after_verdict, after_one}
use Rattle.registry_rules.specs.declared.order.Request.{Request}
use Rattle.registry_rules.specs.declared.record.Entry.{Entry}
use Rattle.registry_rules.specs.declared.record.Vendor.{Vendor}
use Rattle.registry_reports.specs.History.{held_title, name_in, vendor_name, IsListing}
use Rattle.registry_reports.specs.Listing.{devices_of, is_held_of, list_of, top_of}
use Rattle.registry_wire.specs.Import.{is_of_vendor, import_of}
use Rattle.registry_laws.specs.Exports.{IsListedEntry}
use Rattle.registry_laws.specs.Imports.{AreTitled, IsTakenOver, without_devices, without, IsInOrder, CompletesList, GivesSameList}
use Rattle.registry_laws.proofs.TakingLemmas.{takes}

-- ---- the codes and names of a list of numbers are product IDs and titles

device_titled : (vid pid : ℕ) (name : List ℕ) (pairs : List (Number × Entry)) → All IsListedEntry pairs → first_mid pid (devices_of vid pairs) ≡ Some name → IsId pid × IsTitle name
device_titled vid pid name [] all e = absurd cc
device_titled vid pid name (pair ∷ pairs) all e = elim (cases_Bool (is_held_of vid pair)) [
  | inr l ↦
      let past : first_mid pid (devices_of vid (pair ∷ pairs)) ≡ first_mid pid (devices_of vid pairs) = rw l refl in
      device_titled vid pid name pairs (All-tail IsListedEntry pair pairs all) (sym past ∙ e)
  | inl l ↦ elim (cases_Bool (nat_eq pair.0.pid pid)) [
    | inr p ↦
        let past : first_mid pid (devices_of vid (pair ∷ pairs)) ≡ first_mid pid (devices_of vid pairs) = rw (l, p) refl in
        device_titled vid pid name pairs (All-tail IsListedEntry pair pairs all) (sym past ∙ e)
    | inl p ↦
        let here : first_mid pid (devices_of vid (pair ∷ pairs)) ≡ Some pair.1.card.title = rw (l, p) refl in
        let is = All-head IsListedEntry pair pairs all in
        let same : pair.1.card.title ≡ name = let both = sym here ∙ e in cc in
        (subst IsId (eqb-true pair.0.pid pid p) is.pid, subst IsTitle same is.title)
  ]
]

titled_in : (vid pid : ℕ) (name other : List ℕ) (v : Vendor) (numbers : List (Number × Entry)) → All IsListedEntry numbers → find_in vid pid (top_of numbers v) ≡ Some other → other ≡ name → IsId pid × IsTitle name
titled_in vid pid name other v numbers all is same = elim (cases_Bool (nat_eq v.vid vid)) [
  | inr l ↦ let none : find_in vid pid (top_of numbers v) ≡ None = rw l refl in let clash = sym none ∙ is in absurd cc
  | inl l ↦
      let some : find_in vid pid (top_of numbers v) ≡ first_mid pid (devices_of v.vid numbers) = rw l refl in
      device_titled v.vid pid name numbers all (sym some ∙ (is ∙ ap (λ (x : List ℕ). Some x) same))
]

first_or : (vid pid : ℕ) (name : List ℕ) (v : Vendor) (numbers : List (Number × Entry)) (found rest : Option (List ℕ)) → All IsListedEntry numbers → find_in vid pid (top_of numbers v) ≡ found →
    (rest ≡ Some name → IsId pid × IsTitle name) → option_or found rest ≡ Some name → IsId pid × IsTitle name
first_or vid pid name v numbers None rest all is later e = later e
first_or vid pid name v numbers (Some other) rest all is later e = titled_in vid pid name other v numbers all is cc

list_titled : (vid : ℕ) (vendors : List Vendor) (numbers : List (Number × Entry)) → All IsListedEntry numbers → AreTitled vid (list_of vendors numbers)
list_titled vid [] numbers all pid name e = absurd cc
list_titled vid (v ∷ vendors) numbers all pid name e =
    first_or vid pid name v numbers (find_in vid pid (top_of numbers v)) (find_mid vid pid (list_of vendors numbers)) all refl (list_titled vid vendors numbers all pid name) e

-- ---- the list without a vendor's devices

either : {A : Type 0} (b : Bool) (x : A) → (if b then x else x) ≡ x
either true x = refl
either false x = refl

other_way : (a b : ℕ) → nat_eq a b ≡ false → nat_eq b a ≡ false
other_way a b e = ne_eqb b a (λ s. eqb-false a b e (sym s))

emptied_by : (vid v pid : ℕ) (kind : Kind) (code digits : ℕ) (name : List ℕ) (mids : List MidEntry) →
    find_in v pid (without_devices vid (record { kind = kind; code = code; digits = digits; name = name; mids = mids }))
    ≡ (if nat_eq vid v then None else find_in v pid (record { kind = kind; code = code; digits = digits; name = name; mids = mids }))
emptied_by vid v pid (Tagged tag) code digits name mids = sym (either (nat_eq vid v) None)
emptied_by vid v pid OfVendor code digits name mids = elim (cases_Bool (nat_eq code vid)) [
  | inl c ↦ elim (cases_Bool (nat_eq vid v)) [
    | inl e ↦ rw (c, e) (either (nat_eq code v) None)
    | inr e ↦ let other : nat_eq code v ≡ false = ap (λ (n : ℕ). nat_eq n v) (eqb-true code vid c) ∙ e in rw (c, e, other) refl
  ]
  | inr c ↦ elim (cases_Bool (nat_eq vid v)) [
    | inl e ↦ let other : nat_eq code v ≡ false = ap (nat_eq code) (sym (eqb-true vid v e)) ∙ c in rw (c, e, other) refl
    | inr e ↦ rw (c, e) refl
  ]
]

spread : (b : Bool) (x y : Option (List ℕ)) → option_or (if b then None else x) (if b then None else y) ≡ (if b then None else option_or x y)
spread true x y = refl
spread false x y = refl

find_without : (vid v pid : ℕ) (doc : List TopEntry) → find_mid v pid (without vid doc) ≡ (if nat_eq vid v then None else find_mid v pid doc)
find_without vid v pid [] = sym (either (nat_eq vid v) None)
find_without vid v pid (t ∷ tops) =
    ap (λ (o : Option (List ℕ)). option_or o (find_mid v pid (without vid tops))) (emptied_by vid v pid t.kind t.code t.digits t.name t.mids)
    ∙ (ap (option_or (if nat_eq vid v then None else find_in v pid t)) (find_without vid v pid tops)
    ∙ spread (nat_eq vid v) (find_in v pid t) (find_mid v pid tops))

vendor_without : (vid v : ℕ) (doc : List TopEntry) → vendor_name v (without vid doc) ≡ vendor_name v doc
vendor_without vid v [] = refl
vendor_without vid v (t ∷ tops) = elim (cases_Bool (is_of_vendor vid t)) [
  | inl e ↦ rw e (ap (λ (o : Option (List ℕ)). if nat_eq t.code v then Some t.name else o) (vendor_without vid v tops))
  | inr e ↦ rw e (ap (λ (o : Option (List ℕ)). if nat_eq t.code v then Some t.name else o) (vendor_without vid v tops))
]

-- ---- the list after the import

named_by : (org : List ℕ) (there : Option Vendor) (b : Bool) (found same : Option (List ℕ)) (old : Option Entry) → (b ≡ true → is_some there ≡ true) → (b ≡ true → same ≡ found) →
    (if b then None else found) ≡ (if is_some there then held_title old else None) →
    found ≡ (if is_some there then held_title (option_or (if b then option_map (entry_imported org) same else None) old) else None)
named_by org there false found same old has is e = e
named_by org None true found same old has is e = let no = has refl in absurd cc
named_by org (Some vendor) true None same old has is e = rw (is refl) e
named_by org (Some vendor) true (Some name) same old has is e = rw (is refl) refl

numbers_after : (there : History) (request : Request) (org : List ℕ) (vid : ℕ) (doc : List TopEntry) (taken : IsTakenOver there request org vid doc) → has_vendor there vid ≡ true → IsListing there (without vid doc) →
    (v pid : ℕ) → find_mid v pid doc ≡ name_in (with_deed there taken.deed) v pid
numbers_after there request org vid doc taken has lists v pid =
    named_by org (vendor_of there v) (nat_eq vid v) (find_mid v pid doc) (find_mid vid pid doc) (entry_of there (number v pid))
    (λ e. ap (λ (w : ℕ). has_vendor there w) (sym (eqb-true vid v e)) ∙ has)
    (λ e. ap (λ (w : ℕ). find_mid w pid doc) (eqb-true vid v e))
    (sym (find_without vid v pid doc) ∙ lists.numbers v pid)
    ∙ (ap (λ (e : Option Entry). if is_some (vendor_of there v) then held_title e else None) (sym (taken.entries (number v pid)))
    ∙ ap (λ (o : Option Vendor). if is_some o then held_title (entry_of (with_deed there taken.deed) (number v pid)) else None) (sym (taken.vendors v)))

list_after : (there : History) (request : Request) (org : List ℕ) (vid : ℕ) (doc : List TopEntry) → IsTakenOver there request org vid doc → has_vendor there vid ≡ true → IsInOrder doc → IsListing there (without vid doc) →
    IsListing (after_one there request) doc
list_after there request org vid doc taken has order lists =
    subst (λ (after : History). IsListing after doc) (sym (ap (after_verdict there) taken.new)) (record {
      ascend = order.ascend;
      each = order.each;
      numbers = numbers_after there request org vid doc taken has lists;
      vendors = λ v. sym (vendor_without vid v doc) ∙ (lists.vendors v ∙ ap (option_map (λ (vendor : Vendor). vendor.name)) (sym (taken.vendors v)));
    })

pub completes : CompletesList
completes there caller key org named doc order titles lists may free =
    list_after there (import_of caller key org there.founding.vendor named doc) org (vendor_meant there named) doc (takes there caller key org named doc may titles free) may.vendor order lists

pub same_list : GivesSameList
same_list h there vendors numbers caller key org named all was lists may free =
    completes there caller key org named (list_of vendors numbers) (record { ascend = was.ascend; each = was.each }) (list_titled (vendor_meant there named) vendors numbers all) lists may free
