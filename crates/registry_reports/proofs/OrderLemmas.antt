-- The order of the list.
use Rattle.std.proofs.Common.{◌≡◌, ℕ, true, List, [], ◌∷◌, nat_eq, Ordering, Less, Equal, refl, sym, ap, ◌∙◌, inl, inr, arith}
use Rattle.std.specs.Prelude.{map, All}
use Rattle.std.specs.Ordering.{nat_cmp, ordering_then}
use Rattle.std.specs.List.{AllByRecursion}
use Rattle.std.specs.List.Sorted.{IsStrictlySortedBy}
use Rattle.std.proofs.lemmas.Bool.{cases_Bool, eqb-true}
use Rattle.std.proofs.lemmas.List.Elements.{All-nil, All-cons}
use Rattle.std.proofs.lemmas.Map.Keys.{IsStrictlyIncreasing-from_sorted}
use Rattle.usbids_text.specs.Entries.{MidEntry, TopEntry}
use Rattle.usbids_text.proofs.EntryLemmas.{both}
use Rattle.registry_rules.specs.declared.record.Vendor.{Vendor}
use Rattle.registry_reports.specs.Order.{by_ids, Ascends}
use Rattle.registry_reports.specs.Listing.{device_of, devices_of, is_held_of, top_of, list_of}
use Rattle.registry_reports.specs.History.{IsDevice, IsVendorOfDevices}
use Rattle.registry_reports.proofs.CensusLemmas.{Pair}

abbrev pub mid_codes : List MidEntry → List ℕ
mid_codes mids = map (λ (mid : MidEntry). mid.code) mids

level : (n : ℕ) → nat_cmp n n ≡ Equal
level n = grind arith

pub then_less : (a b : ℕ) (d : Ordering) → a ≡ b → ordering_then (nat_cmp a b) d ≡ Less → d ≡ Less
then_less a b d same e = let tie : nat_cmp a b ≡ Equal = ap (nat_cmp a) (sym same) ∙ level a in sym (ap (λ (o : Ordering). ordering_then o d) tie) ∙ e

above : (x : Pair) (vid : ℕ) (ys : List Pair) → AllByRecursion (λ y. by_ids x y ≡ Less) ys → nat_eq x.0.vid vid ≡ true → AllByRecursion (λ code. nat_cmp x.0.pid code ≡ Less) (mid_codes (devices_of vid ys))
above x vid [] below same = tt
above x vid (y ∷ ys) below same = elim (cases_Bool (is_held_of vid y)) [
  | inr e ↦ rw e (above x vid ys below.1 same)
  | inl e ↦
      let of = both (nat_eq y.0.vid vid) y.1.held e in
      rw e (then_less x.0.vid y.0.vid (nat_cmp x.0.pid y.0.pid) (eqb-true x.0.vid vid same ∙ sym (eqb-true y.0.vid vid of.0)) below.0, above x vid ys below.1 same)
]

devices_sorted : (vid : ℕ) (xs : List Pair) → Ascends xs → IsStrictlySortedBy nat_cmp (mid_codes (devices_of vid xs))
unfolding IsStrictlySortedBy
devices_sorted vid [] up = tt
devices_sorted vid (x ∷ xs) up = elim (cases_Bool (is_held_of vid x)) [
  | inr e ↦ rw e (devices_sorted vid xs up.1)
  | inl e ↦ rw e (above x vid xs up.0 (both (nat_eq x.0.vid vid) x.1.held e).0, devices_sorted vid xs up.1)
]

devices_each : (vid : ℕ) (xs : List Pair) → All IsDevice (devices_of vid xs)
devices_each vid [] = All-nil IsDevice
devices_each vid (x ∷ xs) = elim (cases_Bool (is_held_of vid x)) [
  | inr e ↦ rw e (devices_each vid xs)
  | inl e ↦ rw e (All-cons IsDevice (device_of x) (devices_of vid xs) (record { digits = refl; leaves = refl }) (devices_each vid xs))
]

pub list_codes : (numbers : List Pair) (vendors : List Vendor) → map (λ (top : TopEntry). top.code) (list_of vendors numbers) ≡ map (λ (vendor : Vendor). vendor.vid) vendors
list_codes numbers [] = refl
list_codes numbers (v ∷ vendors) = ap (λ (codes : List ℕ). v.vid ∷ codes) (list_codes numbers vendors)

pub list_each : (vendors : List Vendor) (numbers : List Pair) → Ascends numbers → All IsVendorOfDevices (list_of vendors numbers)
list_each [] numbers up = All-nil IsVendorOfDevices
list_each (v ∷ vendors) numbers up = All-cons IsVendorOfDevices (top_of numbers v) (list_of vendors numbers)
    (record { kind = refl; digits = refl; ascend = IsStrictlyIncreasing-from_sorted (mid_codes (devices_of v.vid numbers)) (devices_sorted v.vid numbers up); each = devices_each v.vid numbers })
    (list_each vendors numbers up)
