-- The lists read are those of the history.
use Rattle.std.proofs.Common.{◌≡◌, ℕ, Bool, true, false, List, map, find, nat_eq, Ordering, Equal, is_eq, refl, sym, ap, subst, ◌∙◌, arith}
use Rattle.std.specs.Ordering.{nat_cmp, ordering_then}
use Rattle.std.specs.Cmp.{IsTotalOrder}
use Rattle.std.specs.Cmp.Lexicographic.{slice_cmp}
use Rattle.std.specs.List.Sorted.{IsStrictlyIncreasing, IsStrictlySortedBy}
use Rattle.std.proofs.lemmas.Bool.Decides.{nat_tests}
use Rattle.std.proofs.lemmas.Cmp.{nat_list_cmp_total, nat_cmp_total, on_total, then_total}
use Rattle.std.proofs.lemmas.Map.Text.{is_eq-slice_cmp}
use Rattle.sqlite.specs.Effect.{Database}
use Rattle.sqlite_keyed.specs.Lists.{sort_by}
use Rattle.usbnum_core.specs.declared.number.Number.{Number}
use Rattle.registry_rules.specs.Number.{number_eq}
use Rattle.registry_rules.specs.Texts.{IsAscending}
use Rattle.registry_rules.specs.History.{History}
use Rattle.registry_rules.specs.declared.record.Org.{Org}
use Rattle.registry_rules.specs.declared.record.Entry.{Entry}
use Rattle.registry_rules.specs.declared.record.Petition.{Petition}
use Rattle.registry_rules.specs.declared.record.Vendor.{Vendor}
use Rattle.registry_rows.specs.Rows.{is_called, is_of, by_slug, by_number}
use Rattle.registry_rows.specs.Tables.{Tables, Holds}
use Rattle.registry_tables.specs.Rows.{AreOrgs, AreEntries, AreRecords}
use Rattle.registry_tables.specs.Lists.{IsOrgList, IsPetitionList, IsNumberList, IsVendorList}
use Rattle.registry_tables.proofs.SortLemmas.{sorted_up, find_sorted, keys_up, numbers_up}
use Rattle.registry_tables.proofs.ViewLemmas.{same_bytes, bytes_same, same_number, number_same}

-- ---- organisations

slug_total : IsTotalOrder by_slug
slug_total = on_total (λ (o : Org). o.slug) nat_list_cmp_total

one_slug : (slug : List ℕ) (a b : Org) → is_called slug a ≡ true → is_called slug b ≡ true → is_called b.slug a ≡ true
one_slug slug a b x y = rw (same_bytes a.slug slug x, same_bytes b.slug slug y) (bytes_same slug)

pub org_list : (h : History) (orgs : List Org) → AreOrgs h orgs → (all : List Org) → all ≡ sort_by by_slug orgs → IsOrgList h all
org_list h orgs had all is = record {
  ascend = subst (λ l. IsAscending (map (λ (o : Org). o.slug) l)) (sym is)
      (keys_up (slice_cmp nat_cmp) (λ (o : Org). o.slug) (sort_by by_slug orgs) (sorted_up by_slug slug_total (λ a b. is_called b.slug a) (λ a b apart. is_eq-slice_cmp a.slug b.slug ∙ apart) orgs had.once));
  each = λ slug. ap (find (is_called slug)) is ∙ find_sorted by_slug (is_called slug) (λ a b. is_called b.slug a) (one_slug slug) orgs had.once ∙ had.each slug;
}

-- ---- petitions

pub petition_list : (h : History) (db : Database) (t : Tables) → Holds db t → AreRecords h t → (all : List (ℕ × Petition)) → all ≡ t.petitions → IsPetitionList h all
petition_list h db t has had all is = record {
  ascend = subst (λ l. IsStrictlyIncreasing (map (λ (p : ℕ × Petition). p.0) l)) (sym is) (numbers_up (λ (p : ℕ × Petition). p.0) t.petitions has.rows.petitions.keyed);
  each = λ i. ap (find (λ (p : ℕ × Petition). nat_eq p.0 i)) is ∙ had.petitions i;
}

-- ---- vendors

pub vendor_list : (h : History) (db : Database) (t : Tables) → Holds db t → AreRecords h t → (all : List Vendor) → all ≡ t.vendors → IsVendorList h all
vendor_list h db t has had all is = record {
  ascend = subst (λ l. IsStrictlyIncreasing (map (λ (v : Vendor). v.vid) l)) (sym is) (numbers_up (λ (v : Vendor). v.vid) t.vendors has.rows.vendors.keyed);
  each = λ vid. ap (find (λ (v : Vendor). nat_eq v.vid vid)) is ∙ had.vendors vid;
}

-- ---- numbers

pub both_equal : (o p : Ordering) → is_eq (ordering_then o p) ≡ true → (o ≡ Equal) × (p ≡ Equal)
both_equal Equal Equal is = (refl, refl)
both_equal Equal _ is = absurd cc
both_equal _ p is = absurd cc

pub level : (x y : ℕ) → nat_cmp x y ≡ Equal → x ≡ y
level x y is = grind (arith, nat_tests)

pub number_total : IsTotalOrder by_number
number_total =
    then_total {R = λ (a b : Number × Entry). nat_cmp a.0.vid b.0.vid} {S = λ (a b : Number × Entry). nat_cmp a.0.pid b.0.pid}
    (on_total (λ (a : Number × Entry). a.0.vid) nat_cmp_total) (on_total (λ (a : Number × Entry). a.0.pid) nat_cmp_total)

told_apart : (a b : Number × Entry) → is_of b.0 a ≡ false → is_eq (by_number a b) ≡ false
told_apart a b apart = go (is_eq (by_number a b)) refl
  where
    go : (e : Bool) → is_eq (by_number a b) ≡ e → is_eq (by_number a b) ≡ false
    go false is = is
    go true is =
        let both = both_equal (nat_cmp a.0.vid b.0.vid) (nat_cmp a.0.pid b.0.pid) is in
        let v = level a.0.vid b.0.vid both.0 in
        let p = level a.0.pid b.0.pid both.1 in
        absurd (let here : number_eq b.0 a.0 ≡ true = rw (v, p) (number_same b.0) in cc)

pub one_number : (n : Number) (a b : Number × Entry) → is_of n a ≡ true → is_of n b ≡ true → is_of b.0 a ≡ true
one_number n a b x y = rw (sym (same_number n a.0 x), sym (same_number n b.0 y)) (number_same n)

pub number_list : (h : History) (entries : List (Number × Entry)) → AreEntries h entries → (all : List (Number × Entry)) → all ≡ sort_by by_number entries → IsNumberList h all
number_list h entries had all is = record {
  ascend = subst (IsStrictlySortedBy by_number) (sym is) (sorted_up by_number number_total (λ a b. is_of b.0 a) told_apart entries had.once);
  each = λ n. ap (find (is_of n)) is ∙ find_sorted by_number (is_of n) (λ a b. is_of b.0 a) (one_number n) entries had.once ∙ had.each n;
}
