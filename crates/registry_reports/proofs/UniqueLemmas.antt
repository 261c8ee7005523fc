-- A history has only one list.
use Rattle.std.proofs.Common.{◌≡◌, ℕ, ◌<◌, false, List, [], ◌∷◌, Option, Some, None, find, nat_eq, Less, refl, sym, ap, subst, ◌∙◌, inl, inr, arith}
use Rattle.std.specs.Prelude.{map, All, option_and_then}
use Rattle.std.specs.Option.{option_map, option_or}
use Rattle.std.specs.Ordering.{nat_cmp}
use Rattle.std.specs.List.{AllByRecursion}
use Rattle.std.specs.List.Sorted.{IsStrictlySortedBy}
use Rattle.std.proofs.lemmas.Bool.{cases_Bool, cases_lt, cases_eq, eqb-true, eq-eqb, ne_eqb}
use Rattle.std.proofs.lemmas.List.Elements.{All-head, All-tail}
use Rattle.std.proofs.lemmas.Map.Keys.{sorted_from_strictly_increasing}
use Rattle.usbids_text.specs.Entries.{MidEntry, LeafEntry, TopEntry}
use Rattle.usbids_text.specs.Finding.{first_mid, find_mid}
use Rattle.usbids_text.specs.declared.kind.Kind.{Kind}
use Rattle.registry_reports.specs.History.{vendor_name, IsDevice, IsVendorOfDevices, HasOneList}

-- ---- lists that ascend by a key

-- the first element with the key
abbrev at : {X : Type 0} → (X → ℕ) → ℕ → List X → Option X
at key k xs = find (λ x. nat_eq (key x) k) xs

abbrev AreBeyond : ℕ → List ℕ → Type 0
AreBeyond k codes = AllByRecursion (λ code. nat_cmp k code ≡ Less) codes

is_less : (a b : ℕ) → a < b → nat_cmp a b ≡ Less
is_less a b l = grind arith

less_is : (a b : ℕ) → nat_cmp a b ≡ Less → a < b
less_is a b l = grind arith

differ : (a b : ℕ) → nat_cmp a b ≡ Less → nat_eq b a ≡ false
differ a b l = let less = less_is a b l in ne_eqb b a (λ e. omega (arith, e, less))

beyond : (a b : ℕ) (codes : List ℕ) → nat_cmp a b ≡ Less → AreBeyond b codes → AreBeyond a codes
beyond a b [] l up = tt
beyond a b (code ∷ codes) l up = (is_less a code (let p = less_is a b l in let q = less_is b code up.0 in omega (arith, p, q)), beyond a b codes l up.1)

absent : {X : Type 0} (key : X → ℕ) (k : ℕ) (xs : List X) → AreBeyond k (map key xs) → at key k xs ≡ None
absent key k [] up = refl
absent key k (x ∷ xs) up = rw (differ k (key x) up.0) (absent key k xs up.1)

first : {X : Type 0} (key : X → ℕ) (x : X) (xs : List X) → at key (key x) (x ∷ xs) ≡ Some x
first key x xs = rw (eq-eqb (key x) (key x) refl) refl

tail_agrees : {X : Type 0} (key : X → ℕ) (x y : X) (xs ys : List X) → key x ≡ key y → AreBeyond (key x) (map key xs) → AreBeyond (key y) (map key ys) → ((k : ℕ) → at key k (x ∷ xs) ≡ at key k (y ∷ ys)) →
    (k : ℕ) → at key k xs ≡ at key k ys
tail_agrees key x y xs ys same up rise agree k = elim (cases_Bool (nat_eq (key x) k)) [
  | inl e ↦
      let k_is : k ≡ key x = sym (eqb-true (key x) k e) in
      rw k_is (absent key (key x) xs up ∙ sym (rw same (absent key (key y) ys rise)))
  | inr e ↦
      let other : nat_eq (key y) k ≡ false = ap (λ (n : ℕ). nat_eq n k) (sym same) ∙ e in
      let left : at key k (x ∷ xs) ≡ at key k xs = rw e refl in
      let right : at key k (y ∷ ys) ≡ at key k ys = rw other refl in
      sym left ∙ (agree k ∙ right)
]

pub list_is_one : {X : Type 0} (key : X → ℕ) (xs ys : List X) → IsStrictlySortedBy nat_cmp (map key xs) → IsStrictlySortedBy nat_cmp (map key ys) → ((k : ℕ) → at key k xs ≡ at key k ys) → xs ≡ ys
unfolding IsStrictlySortedBy
list_is_one key [] [] up rise agree = refl
list_is_one key [] (y ∷ ys) up rise agree = absurd (let there = agree (key y) ∙ first key y ys in cc)
list_is_one key (x ∷ xs) [] up rise agree = absurd (let there = sym (agree (key x)) ∙ first key x xs in cc)
list_is_one {X} key (x ∷ xs) (y ∷ ys) up rise agree = elim (cases_eq (key x) (key y)) [
  | inl same ↦
      let found : at key (key x) (y ∷ ys) ≡ Some y = ap (λ (k : ℕ). at key k (y ∷ ys)) same ∙ first key y ys in
      let is : Some x ≡ Some y = sym (first key x xs) ∙ (agree (key x) ∙ found) in
      let alike : x ≡ y = cc in
      ap (λ (z : X). z ∷ xs) alike ∙ ap (λ (zs : List X). y ∷ zs) (list_is_one key xs ys up.1 rise.1 (tail_agrees key x y xs ys same up.0 rise.0 agree))
  | inr other ↦ elim (cases_lt (key x) (key y)) [
    | inl l ↦
        let less = is_less (key x) (key y) l in
        let gone : at key (key x) (y ∷ ys) ≡ None = absent key (key x) (y ∷ ys) (less, beyond (key x) (key y) (map key ys) less rise.0) in
        absurd (let there = sym (first key x xs) ∙ (agree (key x) ∙ gone) in cc)
    | inr g ↦
        let less = is_less (key y) (key x) (omega (arith, g, other)) in
        let gone : at key (key y) (x ∷ xs) ≡ None = absent key (key y) (x ∷ xs) (less, beyond (key y) (key x) (map key xs) less up.0) in
        absurd (let there = sym (first key y ys) ∙ (sym (agree (key y)) ∙ gone) in cc)
  ]
]

-- the found element has the key, and what holds for all elements
picked : {X : Type 0} (P : X → Type 0) (key : X → ℕ) (k : ℕ) (xs : List X) (x : X) → All P xs → at key k xs ≡ Some x → P x × (key x ≡ k)
picked P key k [] x all e = absurd cc
picked {X} P key k (y ∷ ys) x all e = elim (cases_Bool (nat_eq (key y) k)) [
  | inl t ↦
      let here : at key k (y ∷ ys) ≡ Some y = rw t refl in
      let is : Some y ≡ Some x = sym here ∙ e in
      let same : y ≡ x = cc in
      subst (λ (z : X). P z × (key z ≡ k)) same (All-head P y ys all, eqb-true (key y) k t)
  | inr f ↦
      let past : at key k (y ∷ ys) ≡ at key k ys = rw f refl in
      picked P key k ys x (All-tail P y ys all) (sym past ∙ e)
]

-- ---- devices

abbrev mid_code : MidEntry → ℕ
mid_code mid = mid.code

abbrev device : ℕ → List ℕ → MidEntry
device code name = record { code = code; digits = 4; name = name; leaves = [] }

device_by : (code digits : ℕ) (name : List ℕ) (leaves : List LeafEntry) → digits ≡ 4 → leaves ≡ [] → record { code = code; digits = digits; name = name; leaves = leaves } ≡ device code name
device_by code digits name leaves d l = rw (d, l) refl

mid_at : (k : ℕ) (mids : List MidEntry) → All IsDevice mids → at mid_code k mids ≡ option_map (device k) (first_mid k mids)
mid_at k [] all = refl
mid_at k (m ∷ mids) all = elim (cases_Bool (nat_eq m.code k)) [
  | inl e ↦
      let is = All-head IsDevice m mids all in
      rw e (ap (λ (x : MidEntry). Some x) (device_by m.code m.digits m.name m.leaves is.digits is.leaves ∙ ap (λ (c : ℕ). device c m.name) (eqb-true m.code k e)))
  | inr e ↦ rw e (mid_at k mids (All-tail IsDevice m mids all))
]

one_mids : (a b : TopEntry) → IsVendorOfDevices a → IsVendorOfDevices b → ((k : ℕ) → first_mid k a.mids ≡ first_mid k b.mids) → a.mids ≡ b.mids
one_mids a b left right agree = list_is_one mid_code a.mids b.mids
    (sorted_from_strictly_increasing (map mid_code a.mids) left.ascend) (sorted_from_strictly_increasing (map mid_code b.mids) right.ascend)
    (λ k. mid_at k a.mids left.each ∙ (ap (option_map (device k)) (agree k) ∙ sym (mid_at k b.mids right.each)))

-- ---- vendors

abbrev top_code : TopEntry → ℕ
top_code top = top.code

abbrev mid_in : ℕ → Option TopEntry → Option (List ℕ)
mid_in k top = option_and_then (λ top. first_mid k top.mids) top

abbrev top_name : Option TopEntry → Option (List ℕ)
top_name top = option_map (λ top. top.name) top

name_at : (v : ℕ) (doc : List TopEntry) → vendor_name v doc ≡ top_name (at top_code v doc)
name_at v [] = refl
name_at v (t ∷ tops) = elim (cases_Bool (nat_eq t.code v)) [ inl e ↦ rw e refl | inr e ↦ rw e (name_at v tops) ]

or_none_is : (x : Option (List ℕ)) → option_or x None ≡ x
or_none_is None = refl
or_none_is (Some name) = refl

found_at_code : (v k : ℕ) (doc : List TopEntry) → All IsVendorOfDevices doc → IsStrictlySortedBy nat_cmp (map top_code doc) → find_mid v k doc ≡ mid_in k (at top_code v doc)
unfolding IsStrictlySortedBy
found_at_code v k [] all up = refl
found_at_code v k (t ∷ tops) all up = elim (cases_Bool (nat_eq t.code v)) [
  | inl e ↦
      let kind = (All-head IsVendorOfDevices t tops all).kind in
      let none : at top_code v tops ≡ None = ap (λ (w : ℕ). at top_code w tops) (sym (eqb-true t.code v e)) ∙ absent top_code t.code tops up.0 in
      let rest : find_mid v k tops ≡ None = found_at_code v k tops (All-tail IsVendorOfDevices t tops all) up.1 ∙ ap (mid_in k) none in
      rw (kind, e) (ap (option_or (first_mid k t.mids)) rest ∙ or_none_is (first_mid k t.mids))
  | inr e ↦
      let kind = (All-head IsVendorOfDevices t tops all).kind in
      rw (kind, e) (found_at_code v k tops (All-tail IsVendorOfDevices t tops all) up.1)
]

abbrev top : Kind → ℕ → ℕ → List ℕ → List MidEntry → TopEntry
top kind code digits name mids = record { kind = kind; code = code; digits = digits; name = name; mids = mids }

top_by : (a b : TopEntry) → a.kind ≡ b.kind → a.code ≡ b.code → a.digits ≡ b.digits → a.name ≡ b.name → a.mids ≡ b.mids → a ≡ b
top_by a b k c d n m =
    ap (λ (x : Kind). top x a.code a.digits a.name a.mids) k
    ∙ (ap (λ (x : ℕ). top b.kind x a.digits a.name a.mids) c
    ∙ (ap (λ (x : ℕ). top b.kind b.code x a.name a.mids) d
    ∙ (ap (λ (x : List ℕ). top b.kind b.code b.digits x a.mids) n
    ∙ ap (λ (x : List MidEntry). top b.kind b.code b.digits b.name x) m)))

one_top : (v : ℕ) (a b : TopEntry) → IsVendorOfDevices a × (a.code ≡ v) → IsVendorOfDevices b × (b.code ≡ v) → a.name ≡ b.name → ((k : ℕ) → first_mid k a.mids ≡ first_mid k b.mids) → a ≡ b
one_top v a b left right names mids = top_by a b (left.0.kind ∙ sym right.0.kind) (left.1 ∙ sym right.1) (left.0.digits ∙ sym right.0.digits) names (one_mids a b left.0 right.0 mids)

agree_at : (v : ℕ) (a b : List TopEntry) (x y : Option TopEntry) → at top_code v a ≡ x → at top_code v b ≡ y → All IsVendorOfDevices a → All IsVendorOfDevices b →
    top_name x ≡ top_name y → ((k : ℕ) → mid_in k x ≡ mid_in k y) → x ≡ y
agree_at v a b None None i j all each names mids = refl
agree_at v a b None (Some u) i j all each names mids = absurd cc
agree_at v a b (Some t) None i j all each names mids = absurd cc
agree_at v a b (Some t) (Some u) i j all each names mids =
    let same : t.name ≡ u.name = cc in
    ap (λ (x : TopEntry). Some x) (one_top v t u (picked IsVendorOfDevices top_code v a t all i) (picked IsVendorOfDevices top_code v b u each j) same mids)

pub one_list : HasOneList
one_list h a b left right =
    let up = sorted_from_strictly_increasing (map top_code a) left.ascend in
    let rise = sorted_from_strictly_increasing (map top_code b) right.ascend in
    list_is_one top_code a b up rise (λ v. agree_at v a b (at top_code v a) (at top_code v b) refl refl left.each right.each
    (sym (name_at v a) ∙ (left.vendors v ∙ (sym (right.vendors v) ∙ name_at v b)))
    (λ k. sym (found_at_code v k a left.each up) ∙ (left.numbers v k ∙ (sym (right.numbers v k) ∙ found_at_code v k b right.each rise))))
