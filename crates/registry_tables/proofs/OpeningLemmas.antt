-- What is read from tables that hold the rows of a history.
use Rattle.std.proofs.Common.{◌≡◌, ℕ, ◌<◌, ◌≤◌, pos, ◌<ℤ◌, false, nat_eq, List, [], ◌∷◌, ◌++◌, length, append-nil, append_assoc, length-append, find, Option, Some, None, refl, sym, ap, subst, ◌∙◌, arith}
use Rattle.std.specs.List.{list_any}
use Rattle.std.specs.Cmp.Lexicographic.{slice_cmp}
use Rattle.std.specs.Ordering.{nat_cmp}
use Rattle.std.specs.Str.{bytes_eq}
use Rattle.std.proofs.lemmas.Bool.Decides.{nat_tests}
use Rattle.std.proofs.lemmas.Cmp.{nat_list_cmp_total}
use Rattle.std.proofs.lemmas.Int.{ints}
use Rattle.std.proofs.lemmas.Map.Text.{is_eq-slice_cmp}
use Rattle.sqlite.specs.Effect.{Database}
use Rattle.usbnum_core.specs.declared.number.Number.{Number}
use Rattle.usbnum_core.specs.declared.number.Span.{Span}
use Rattle.sqlite_trees.specs.Tree.{IsAscending as RiseBy}
use Rattle.sqlite_keyed.specs.Lists.{sort_by}
use Rattle.sqlite_keyed.proofs.ListLemmas.{any_from_none, all_weaker}
use Rattle.registry_rules.specs.FactsOf.{AreVendorsOf}
use Rattle.registry_rules.specs.History.{History, all_of, with_answer}
use Rattle.registry_rules.specs.Query.{licences, adds_licence, is_reserved_by_order}
use Rattle.registry_rules.specs.Run.{Legal}
use Rattle.registry_rules.specs.Texts.{IsAscending, AreSorted}
use Rattle.registry_rules.specs.declared.deed.Act.{Act}
use Rattle.registry_rules.specs.declared.deed.Act.TheVariants.{LicenceAdded}
use Rattle.registry_rules.specs.declared.deed.Deed.{Deed}
use Rattle.registry_rules.specs.declared.founding.Founding.{Founding}
use Rattle.registry_rules.specs.declared.limits.TheConstants.{MOST_CURATORS, MOST_LICENCES}
use Rattle.registry_rules.specs.declared.record.Vendor.{Vendor}
use Rattle.registry_rules.proofs.FollowLemmas.{Follows, legal_follows}
use Rattle.registry_rules.proofs.RunLemmas.{legal_before, legal_licences}
use Rattle.registry_rules.proofs.NoRepeatLemmas.{NoneTwice, licences_counted, ascending_distinct, vendor_count}
use Rattle.registry_rows.specs.declared.meta.Meta.{Meta}
use Rattle.registry_rows.specs.Rows.{by_bytes, by_beginning, is_named}
use Rattle.registry_rows.specs.Tables.{Tables, Holds}
use Rattle.registry_tables.specs.Rows.{meta_of, vendor_span_has, AreCurators, AreLicences, AreRecords, IsFounding}
use Rattle.registry_tables.specs.Lists.{AreAllowed}
use Rattle.registry_tables.proofs.AscendLemmas.{one_order}
use Rattle.registry_tables.proofs.SortLemmas.{sorted_up, any_sorted}
use Rattle.registry_tables.proofs.ViewLemmas.{same_bytes}

-- ---- meta

pub last_is_only : {X : Type 0} (xs : List X) (x y : X) → y ∷ [] ≡ xs ++ x ∷ [] → x ≡ y
last_is_only [] x y is = cc
last_is_only (z ∷ []) x y is = absurd cc
last_is_only (z ∷ w ∷ zs) x y is = absurd cc

pub only_meta : (h : History) (t : Tables) → AreRecords h t → (rest : List Meta) (meta : Meta) → t.metas ≡ rest ++ meta ∷ [] → meta ≡ meta_of h
only_meta h t had rest meta is = last_is_only rest meta (meta_of h) (sym had.metas ∙ is)

pub one_meta : (h : History) (t : Tables) → AreRecords h t → 0 < length t.metas
one_meta h t had = subst (λ l. 0 < length l) (sym had.metas) (omega arith)

-- ---- names

names_up : (names : List (List ℕ)) → RiseBy (λ a b. is_named a b ≡ false) names → IsAscending (sort_by by_bytes names)
names_up names once = sorted_up by_bytes nat_list_cmp_total is_named (λ a b apart. is_eq-slice_cmp a b ∙ apart) names once

pub same_names : (xs ys : List (List ℕ)) → IsAscending xs → IsAscending ys → ((name : List ℕ) → list_any (bytes_eq name) xs ≡ list_any (bytes_eq name) ys) → xs ≡ ys
same_names = one_order (slice_cmp nat_cmp) nat_list_cmp_total bytes_eq is_eq-slice_cmp same_bytes

module _ (h : History) (names given : List (List ℕ)) (is : given ≡ sort_by by_bytes names) where
  any_given : (name : List ℕ) → list_any (bytes_eq name) given ≡ list_any (bytes_eq name) names
  any_given name = ap (list_any (bytes_eq name)) is ∙ any_sorted by_bytes (bytes_eq name) names

  given_up : RiseBy (λ a b. is_named a b ≡ false) names → IsAscending given
  given_up once = subst IsAscending (sym is) (names_up names once)

  pub curators_given : IsFounding h.founding → AreCurators h names → given ≡ h.founding.curators
  curators_given valid had = same_names given h.founding.curators (given_up had.once) valid.curators.ascending (λ name. any_given name ∙ had.each name)

  pub curators_in_order : IsFounding h.founding → AreCurators h names → (ordered : List (List ℕ)) → AreSorted given ordered → ordered ≡ h.founding.curators
  curators_in_order valid had ordered in_order = same_names ordered h.founding.curators in_order.ascending valid.curators.ascending (λ name. in_order.same name ∙ any_given name ∙ had.each name)

  pub curators_fit : IsFounding h.founding → AreCurators h names → (1 ≤ length given) × (length given ≤ MOST_CURATORS)
  curators_fit valid had = let same = curators_given valid had in (subst (λ l. 1 ≤ length l) (sym same) valid.curators.some, subst (λ l. length l ≤ MOST_CURATORS) (sym same) valid.curators.most)

  pub allowed_in_order : Legal h → AreLicences h names → (ordered : List (List ℕ)) → AreSorted given ordered → AreAllowed h ordered
  allowed_in_order legal had ordered in_order =
      let each = λ (name : List ℕ). in_order.same name ∙ any_given name ∙ had.each name in
      record { each = each; count = licences_counted h legal ordered each (ascending_distinct ordered in_order.ascending) }

  given_counted : Legal h → AreLicences h names → length given ≡ length (licences h)
  given_counted legal had = licences_counted h legal given (λ name. any_given name ∙ had.each name) (ascending_distinct given (given_up had.once))

-- ---- the number of licences stays within the limit

below_more : (h : History) (caller : List ℕ) (act : Act) (licence : List ℕ) → Follows h caller act → adds_licence act ≡ Some licence → length (licences h) < MOST_LICENCES
below_more h caller (LicenceAdded added) licence can e = grind (arith, nat_tests, can.below)
below_more h caller _ licence can e = absurd cc

more_fit : (first so_far : List (List ℕ)) (more : Option (List ℕ)) → length (first ++ so_far) ≤ MOST_LICENCES → ((licence : List ℕ) → more ≡ Some licence → length (first ++ so_far) < MOST_LICENCES)
    → length (first ++ with_answer so_far more) ≤ MOST_LICENCES
more_fit first so_far None most below = most
more_fit first so_far (Some licence) most below = let one = below licence refl in subst (λ l. length l ≤ MOST_LICENCES) (append_assoc first so_far (licence ∷ [])) (omega (arith, one, length-append (first ++ so_far) (licence ∷ [])))

licences_most : (founding : Founding) (deeds : List Deed) → Legal (record { founding = founding; deeds = deeds }) → length (licences (record { founding = founding; deeds = deeds })) ≤ MOST_LICENCES
licences_most founding [] legal = subst (λ l. length l ≤ MOST_LICENCES) (sym (append-nil founding.licences)) (legal_licences founding [] legal).most
licences_most founding (deed ∷ earlier) legal =
    more_fit founding.licences (all_of (λ d. adds_licence d.act) earlier) (adds_licence deed.act) (licences_most founding earlier (legal_before founding deed earlier legal))
    (λ licence e. below_more (record { founding = founding; deeds = earlier }) deed.caller deed.act licence (legal_follows founding deed earlier legal) e)

licences_some : (h : History) → Legal h → 1 ≤ length (licences h)
licences_some h legal = let some = (legal_licences h.founding h.deeds legal).some in omega (arith, some, length-append h.founding.licences (all_of (λ d. adds_licence d.act) h.deeds))

pub licences_fit : (h : History) (names given : List (List ℕ)) → given ≡ sort_by by_bytes names → Legal h → AreLicences h names → (1 ≤ length given) × (length given ≤ MOST_LICENCES)
licences_fit h names given is legal had =
    let counted = given_counted h names given is legal had in
    let some = licences_some h legal in
    let most = licences_most h.founding h.deeds legal in
    (omega arith, omega arith)

-- ---- vendors

rise_once : (vendors : List Vendor) → RiseBy (λ (a b : Vendor). pos a.vid <ℤ pos b.vid) vendors → NoneTwice (λ a b. nat_eq a.vid b.vid) vendors
rise_once [] up = tt
rise_once (v ∷ vs) up =
    (any_from_none (λ (o : Vendor). nat_eq v.vid o.vid) vs (all_weaker (λ (o : Vendor). pos v.vid <ℤ pos o.vid) (λ (o : Vendor). nat_eq v.vid o.vid ≡ false) (λ o less. grind (arith, ints, nat_tests)) vs up.0), rise_once vs up.1)

pub vendors_are : (h : History) (db : Database) (t : Tables) → Legal h → Holds db t → AreRecords h t → (all : List Vendor) → all ≡ t.vendors → AreVendorsOf h all
vendors_are h db t legal has had all is =
    let each = λ (vid : ℕ). ap (find (λ (v : Vendor). nat_eq v.vid vid)) is ∙ had.vendors vid in
    record { each = each; count = vendor_count h legal all each (subst (NoneTwice (λ a b. nat_eq a.vid b.vid)) (sym is) (rise_once t.vendors has.rows.vendors.keyed)) }

-- ---- the reserved numbers

pub spans_told : (h : History) (t : Tables) → AreRecords h t → (all : List (ℕ × Span)) → all ≡ sort_by by_beginning t.spans
    → (n : Number) → list_any (vendor_span_has n) all ≡ is_reserved_by_order h n
spans_told h t had all is n = ap (list_any (vendor_span_has n)) is ∙ any_sorted by_beginning (vendor_span_has n) t.spans ∙ had.spans.each n
