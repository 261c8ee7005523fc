-- A history has one list of each kind: two lists that ascend by a key, and give the same under each key, are equal.
use Rattle.std.proofs.Common.{◌≡◌, ℕ, Bool, true, false, List, [], ◌∷◌, Option, Some, None, find, Ordering, Less, Equal, Greater, is_eq, refl, sym, ap, subst, ◌∙◌, arith}
use Rattle.std.specs.Ordering.{nat_cmp, ordering_reverse}
use Rattle.std.specs.List.{AllByRecursion}
use Rattle.std.specs.List.Sorted.{IsStrictlySortedBy}
use Rattle.std.specs.Prelude.{map, bytes_eq}
use Rattle.std.specs.Cmp.{IsTotalOrder}
use Rattle.std.specs.Cmp.Lexicographic.{slice_cmp}
use Rattle.std.proofs.lemmas.Cmp.{nat_list_cmp_total, on_total}
use Rattle.std.proofs.lemmas.Map.Keys.{sorted_from_strictly_increasing}
use Rattle.std.proofs.lemmas.Map.Text.{is_eq-slice_cmp}
use Rattle.sqlite_keyed.proofs.ListLemmas.{all_weaker}
use Rattle.usbnum_core.specs.declared.number.Number.{Number}
use Rattle.usbnum_core.specs.declared.number.Span.{Span}
use Rattle.registry_rules.specs.FactsOf.{IsCurrentFounding}
use Rattle.registry_rules.specs.Number.{number_eq}
use Rattle.registry_rules.specs.History.{History}
use Rattle.registry_rules.specs.Texts.{IsAscending, IsLicences}
use Rattle.registry_rules.specs.declared.founding.Founding.{Founding}
use Rattle.registry_rules.specs.declared.record.Entry.{Entry}
use Rattle.registry_rules.specs.declared.record.Org.{Org}
use Rattle.registry_rules.specs.declared.record.Petition.{Petition}
use Rattle.registry_rules.specs.declared.record.Vendor.{Vendor}
use Rattle.registry_reports.proofs.UniqueLemmas.{list_is_one}
use Rattle.registry_rows.specs.Rows.{by_number, by_slug}
use Rattle.registry_tables.specs.Lists.{IsNumberList, IsOrgList, IsPetitionList, IsVendorList}
use Rattle.registry_tables.proofs.AscendLemmas.{one_order}
use Rattle.registry_tables.proofs.ListLemmas.{both_equal, level, number_total}
use Rattle.registry_tables.proofs.ViewLemmas.{same_bytes, bytes_same, same_number, number_same}

module _ {X K : Type 0} (key : X → K) (cmp : X → X → Ordering) (total : IsTotalOrder cmp) (same : K → K → Bool)
    (told : (a b : X) → is_eq (cmp a b) ≡ same (key a) (key b)) (exact : (a b : K) → same a b ≡ true → a ≡ b) where
  abbrev at : K → List X → Option X
  at k xs = find (λ x. same k (key x)) xs

  lacks : (x : X) (xs : List X) → AllByRecursion (λ y. cmp x y ≡ Less) xs → at (key x) xs ≡ None
  lacks x [] below = refl
  lacks x (y ∷ ys) below = let apart : same (key x) (key y) ≡ false = sym (told x y) ∙ ap is_eq below.0 in rw apart (lacks x ys below.1)

  itself : (x : X) → same (key x) (key x) ≡ true
  itself x = go (cmp x x) refl
    where
      go : (o : Ordering) → cmp x x ≡ o → same (key x) (key x) ≡ true
      go Equal is = sym (told x x) ∙ ap is_eq is
      go Less is = absurd (let turned : cmp x x ≡ Greater = total.antisymm x x ∙ ap ordering_reverse is in cc)
      go Greater is = absurd (let turned : cmp x x ≡ Less = total.antisymm x x ∙ ap ordering_reverse is in cc)

  first : (x : X) (xs : List X) → at (key x) (x ∷ xs) ≡ Some x
  first x xs = rw (itself x) refl

  below_both : (x y : X) (ys : List X) → cmp x y ≡ Less → AllByRecursion (λ z. cmp y z ≡ Less) ys → at (key x) (y ∷ ys) ≡ None
  below_both x y ys less above = lacks x (y ∷ ys) (less, all_weaker (λ z. cmp y z ≡ Less) (λ z. cmp x z ≡ Less) (λ z more. total.trans x y z less more) ys above)

  rest_same : (x : X) (xs ys : List X) → AllByRecursion (λ z. cmp x z ≡ Less) xs → AllByRecursion (λ z. cmp x z ≡ Less) ys
      → ((k : K) → at k (x ∷ xs) ≡ at k (x ∷ ys)) → (k : K) → at k xs ≡ at k ys
  rest_same x xs ys low high agree k = go (same k (key x)) refl
    where
      go : (b : Bool) → same k (key x) ≡ b → at k xs ≡ at k ys
      go true is = let here = exact k (key x) is in rw here (lacks x xs low ∙ sym (lacks x ys high))
      go false is =
          let left : at k (x ∷ xs) ≡ at k xs = rw is refl in
          let right : at k (x ∷ ys) ≡ at k ys = rw is refl in
          sym left ∙ (agree k ∙ right)

  pub one_list : (xs ys : List X) → IsStrictlySortedBy cmp xs → IsStrictlySortedBy cmp ys → ((k : K) → at k xs ≡ at k ys) → xs ≡ ys
  unfolding IsStrictlySortedBy
  one_list [] [] up rise agree = refl
  one_list [] (y ∷ ys) up rise agree = absurd (let there = agree (key y) ∙ first y ys in cc)
  one_list (x ∷ xs) [] up rise agree = absurd (let there = sym (agree (key x)) ∙ first x xs in cc)
  one_list (x ∷ xs) (y ∷ ys) up rise agree = go (cmp x y) refl (one_list xs ys up.1 rise.1)
    where
      go : (o : Ordering) → cmp x y ≡ o → (((k : K) → at k xs ≡ at k ys) → xs ≡ ys) → x ∷ xs ≡ y ∷ ys
      go Less is more = absurd (let there = sym (first x xs) ∙ (agree (key x) ∙ below_both x y ys is rise.0) in cc)
      go Greater is more =
          let turned : cmp y x ≡ Less = total.antisymm y x ∙ ap ordering_reverse is in
          absurd (let there = sym (first y ys) ∙ (sym (agree (key y)) ∙ below_both y x xs turned up.0) in cc)
      go Equal is more =
          let keys : key x ≡ key y = exact (key x) (key y) (sym (told x y) ∙ ap is_eq is) in
          let found : at (key x) (y ∷ ys) ≡ Some y = ap (λ (k : K). at k (y ∷ ys)) keys ∙ first y ys in
          let both : Some x ≡ Some y = sym (first x xs) ∙ (agree (key x) ∙ found) in
          let here : x ≡ y = cc in
          let rise_x : AllByRecursion (λ z. cmp x z ≡ Less) ys = subst (λ k. AllByRecursion (λ z. cmp k z ≡ Less) ys) (sym here) rise.0 in
          let agree_x = subst (λ l. (k : K) → at k (x ∷ xs) ≡ at k (l ∷ ys)) (sym here) agree in
          let rest : xs ≡ ys = more (rest_same x xs ys up.0 rise_x agree_x) in
          rw (here, rest) refl

-- ---- the numbers of a history

even : (n : ℕ) → nat_cmp n n ≡ Equal
even n = grind arith

number_told : (a b : Number × Entry) → is_eq (by_number a b) ≡ number_eq a.0 b.0
number_told a b = go (is_eq (by_number a b)) (number_eq a.0 b.0) refl refl
  where
    go : (e i : Bool) → is_eq (by_number a b) ≡ e → number_eq a.0 b.0 ≡ i → e ≡ i
    go true true is at = refl
    go false false is at = refl
    go true false is at =
        let both = both_equal (nat_cmp a.0.vid b.0.vid) (nat_cmp a.0.pid b.0.pid) is in
        let v = level a.0.vid b.0.vid both.0 in
        let p = level a.0.pid b.0.pid both.1 in
        absurd (let here : number_eq a.0 b.0 ≡ true = rw (v, p) (number_same b.0) in cc)
    go false true is at =
        let one : a.0 ≡ b.0 = same_number a.0 b.0 at in
        absurd (let here : is_eq (by_number a b) ≡ true = rw one (rw (even b.0.vid, even b.0.pid) refl) in cc)

pub one_number_list : (h : History) (a b : List (Number × Entry)) → IsNumberList h a → IsNumberList h b → a ≡ b
one_number_list h a b is_a is_b =
    one_list (λ (pair : Number × Entry). pair.0) by_number number_total number_eq number_told same_number a b is_a.ascend is_b.ascend (λ n. is_a.each n ∙ sym (is_b.each n))

-- ---- the organisations of a history

slug_told : (a b : Org) → is_eq (by_slug a b) ≡ bytes_eq b.slug a.slug
slug_told a b = is_eq-slice_cmp a.slug b.slug ∙ turned a.slug b.slug
  where
    turned : (a b : List ℕ) → bytes_eq a b ≡ bytes_eq b a
    turned a b = go (bytes_eq a b) (bytes_eq b a) refl refl
      where
        go : (e i : Bool) → bytes_eq a b ≡ e → bytes_eq b a ≡ i → e ≡ i
        go true true is at = refl
        go false false is at = refl
        go true false is at = absurd (let here : bytes_eq b a ≡ true = rw (same_bytes a b is) (bytes_same b) in cc)
        go false true is at = absurd (let here : bytes_eq a b ≡ true = rw (same_bytes b a at) (bytes_same a) in cc)

up_by_slug : (orgs : List Org) → IsAscending (map (λ org. org.slug) orgs) → IsStrictlySortedBy by_slug orgs
unfolding IsStrictlySortedBy
up_by_slug [] up = tt
up_by_slug (x ∷ orgs) up = (below orgs up.0, up_by_slug orgs up.1)
  where
    below : (orgs : List Org) → AllByRecursion (λ slug. slice_cmp nat_cmp x.slug slug ≡ Less) (map (λ org. org.slug) orgs) → AllByRecursion (λ org. by_slug x org ≡ Less) orgs
    below [] all = tt
    below (y ∷ orgs) all = (all.0, below orgs all.1)

pub one_org_list : (h : History) (a b : List Org) → IsOrgList h a → IsOrgList h b → a ≡ b
one_org_list h a b is_a is_b =
    one_list (λ (org : Org). org.slug) by_slug (on_total (λ (org : Org). org.slug) nat_list_cmp_total) (λ k slug. bytes_eq slug k) slug_told (λ k slug is. sym (same_bytes slug k is)) a b (up_by_slug a is_a.ascend) (up_by_slug b is_b.ascend)
    (λ slug. is_a.each slug ∙ sym (is_b.each slug))

-- ---- the vendors and the petitions of a history

pub one_vendor_list : (h : History) (a b : List Vendor) → IsVendorList h a → IsVendorList h b → a ≡ b
one_vendor_list h a b is_a is_b =
    list_is_one (λ (v : Vendor). v.vid) a b (sorted_from_strictly_increasing _ is_a.ascend) (sorted_from_strictly_increasing _ is_b.ascend) (λ vid. is_a.each vid ∙ sym (is_b.each vid))

pub one_petition_list : (h : History) (a b : List (ℕ × Petition)) → IsPetitionList h a → IsPetitionList h b → a ≡ b
one_petition_list h a b is_a is_b =
    list_is_one (λ (p : ℕ × Petition). p.0) a b (sorted_from_strictly_increasing _ is_a.ascend) (sorted_from_strictly_increasing _ is_b.ascend) (λ i. is_a.each i ∙ sym (is_b.each i))

-- ---- its founding, as it is now

-- a founding of these values
abbrev of_values : ℕ → List ℕ → List (List ℕ) → List (List ℕ) → List Span → Founding
of_values vendor name curators licences fixed = record { vendor = vendor; name = name; curators = curators; licences = licences; fixed = fixed }

pub one_founding : (h : History) (a b : Founding) → IsCurrentFounding h a → IsCurrentFounding h b → IsLicences a.licences → IsLicences b.licences → a ≡ b
one_founding h a b is_a is_b sorted_a sorted_b =
    let licences : a.licences ≡ b.licences = one_order (slice_cmp nat_cmp) nat_list_cmp_total bytes_eq is_eq-slice_cmp same_bytes a.licences b.licences sorted_a.ascending sorted_b.ascending (λ text. is_a.allowed text ∙ sym (is_b.allowed text)) in
    ap (λ (v : ℕ). of_values v a.name a.curators a.licences a.fixed) (is_a.vendor ∙ sym is_b.vendor)
    ∙ (ap (λ (n : List ℕ). of_values b.vendor n a.curators a.licences a.fixed) (is_a.name ∙ sym is_b.name)
    ∙ (ap (λ (c : List (List ℕ)). of_values b.vendor b.name c a.licences a.fixed) (is_a.curators ∙ sym is_b.curators)
    ∙ (ap (λ (l : List (List ℕ)). of_values b.vendor b.name b.curators l a.fixed) licences
    ∙ ap (λ (f : List Span). of_values b.vendor b.name b.curators b.licences f) (is_a.fixed ∙ sym is_b.fixed))))
