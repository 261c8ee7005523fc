-- The tallies of all organisations are counted in one pass.
use Rattle.std.proofs.Common.{◌≡◌, ℕ, ◌+◌, ◌<◌, ◌≤◌, Bool, true, false, cond, List, [], ◌∷◌, ◌++◌, length, take, get_or, Option, Some, None, refl, sym, ap, ◌∙◌, inl, inr, arith, add-one}
use Rattle.std.specs.Prelude.{map, unwrap_or, not, ◌&&◌, ◌||◌, if◌then◌else◌}
use Rattle.std.specs.List.{count_by, list_any}
use Rattle.std.specs.Str.{bytes_eq}
use Rattle.std.specs.Ordering.{nat_cmp}
use Rattle.std.specs.Cmp.Lexicographic.{slice_cmp}
use Rattle.std.specs.BTreeMap.{BTreeMap, Updates, get}
use Rattle.std.proofs.Math.Seq.{take-suc}
use Rattle.std.proofs.lemmas.Bool.{cases_Bool}
use Rattle.std.proofs.lemmas.List.{length-take-le, take_all}
use Rattle.std.proofs.lemmas.List.Sums.{count_by-le-length, sum_by-cons}
use Rattle.std.proofs.lemmas.Map.Text.{is_eq-slice_cmp}
use Rattle.std.proofs.lemmas.Slice.Eq.{bytes_eq-Decides}
use Rattle.registry_reports.specs.Tallies.{owner_slug, holds_for, returned_by, tally_for, tallied, with_number}
use Rattle.registry_reports.specs.declared.tallies.Tally.{Tally}
use Rattle.registry_reports.proofs.CensusLemmas.{Pair, count_one_more}

abbrev zero : Tally
zero = record { held = 0; returned = 0 }

abbrev owns : List ℕ → List Pair → Bool
owns slug xs = list_any (bytes_eq slug) (map owner_slug xs)

-- an organisation that owns nothing has counts of 0
nobody : (slug : List ℕ) (xs : List Pair) → owns slug xs ≡ false → (count_by (holds_for slug) xs ≡ 0) × (count_by (returned_by slug) xs ≡ 0)
nobody slug [] none = (refl, refl)
nobody slug (x ∷ xs) none = elim (cases_Bool (bytes_eq slug x.1.org)) [
  | inl e ↦ absurd (let t : true ≡ false = rw e at none in cc)
  | inr e ↦
      let rest = nobody slug xs (rw e at none) in
      let h : count_by (holds_for slug) (x ∷ xs) ≡ 0 + count_by (holds_for slug) xs = sum_by-cons (λ (y : Pair). cond (holds_for slug y) 1 0) x xs ∙ rw e refl in
      let r : count_by (returned_by slug) (x ∷ xs) ≡ 0 + count_by (returned_by slug) xs = sum_by-cons (λ (y : Pair). cond (returned_by slug y) 1 0) x xs ∙ rw e refl in
      (omega (arith, h, rest.0), omega (arith, r, rest.1))
]

abbrev tally : ℕ → ℕ → Tally
tally held returned = record { held = held; returned = returned }

unwrapped : (slug : List ℕ) (xs : List Pair) → unwrap_or (tallied xs slug) zero ≡ tally_for xs slug
unwrapped slug xs = elim (cases_Bool (owns slug xs)) [
  | inl e ↦ rw e refl
  | inr e ↦ let none = nobody slug xs e in rw e (ap (λ (n : ℕ). tally n 0) (sym none.0) ∙ ap (tally (count_by (holds_for slug) xs)) (sym none.1))
]

-- ---- one more number

either : (b : Bool) → (b || true) ≡ true
either true = refl
either false = refl

neither : (b : Bool) → (b || false) ≡ b
neither true = refl
neither false = refl

flipped : (a b : List ℕ) → bytes_eq a b ≡ false → bytes_eq b a ≡ false
flipped a b e = elim (cases_Bool (bytes_eq b a)) [
  | inr f ↦ f
  | inl f ↦ absurd (let same : bytes_eq a b ≡ true = (bytes_eq-Decides a b).1 (sym ((bytes_eq-Decides b a).0 f)) in cc)
]

owns_push : (slug : List ℕ) (xs : List Pair) (x : Pair) → owns slug (xs ++ x ∷ []) ≡ (owns slug xs || bytes_eq slug x.1.org)
owns_push slug [] x = elim (cases_Bool (bytes_eq slug x.1.org)) [ inl e ↦ rw e refl | inr e ↦ rw e refl ]
owns_push slug (y ∷ xs) x = elim (cases_Bool (bytes_eq slug y.1.org)) [ inl e ↦ rw e refl | inr e ↦ rw e (owns_push slug xs x) ]

owns_next : (slug : List ℕ) (xs : List Pair) (i : ℕ) (x : Pair) → i < length xs → x ≡ get_or xs i x → owns slug (take (i + 1) xs) ≡ (owns slug (take i xs) || bytes_eq slug x.1.org)
owns_next slug xs i x within is =
    ap (owns slug) (rw add-one (take-suc xs i x within)) ∙ (owns_push slug (take i xs) (get_or xs i x) ∙ ap (λ (y : Pair). owns slug (take i xs) || bytes_eq slug y.1.org) (sym is))

reflexive : (slug : List ℕ) → bytes_eq slug slug ≡ true
reflexive slug = (bytes_eq-Decides slug slug).1 refl

picked : (test : Pair → Bool) (b held : Bool) (xs : List Pair) (i : ℕ) (x : Pair) → i < length xs → x ≡ get_or xs i x → test x ≡ (b && held) → count_by test (take (i + 1) xs) ≡ count_by test (take i xs) + cond (b && held) 1 0
picked test b held xs i x within is e = count_one_more test xs i x within is ∙ ap (λ (c : Bool). count_by test (take i xs) + cond c 1 0) e

-- for the number's own organisation
next_own : (xs : List Pair) (i : ℕ) (x : Pair) → i < length xs → x ≡ get_or xs i x → Some (with_number (unwrap_or (tallied (take i xs) x.1.org) zero) x.1.held) ≡ tallied (take (i + 1) xs) x.1.org
next_own xs i x within is =
    let own : bytes_eq x.1.org x.1.org ≡ true = reflexive x.1.org in
    let there : owns x.1.org (take (i + 1) xs) ≡ true = owns_next x.1.org xs i x within is ∙ (rw own (either (owns x.1.org (take i xs)))) in
    let held = picked (holds_for x.1.org) true x.1.held xs i x within is (ap (λ (b : Bool). b && x.1.held) own) in
    let returned = picked (returned_by x.1.org) true (not x.1.held) xs i x within is (ap (λ (b : Bool). b && not x.1.held) own) in
    rw there (ap (λ (t : Tally). Some (with_number t x.1.held)) (unwrapped x.1.org (take i xs))
    ∙ (ap (λ (n : ℕ). Some (tally n (count_by (returned_by x.1.org) (take i xs) + cond (not x.1.held) 1 0))) (sym held) ∙ ap (λ (n : ℕ). Some (tally (count_by (holds_for x.1.org) (take (i + 1) xs)) n)) (sym returned)))

-- for another organisation
next_other : (xs : List Pair) (i : ℕ) (x : Pair) (slug : List ℕ) → i < length xs → x ≡ get_or xs i x → bytes_eq slug x.1.org ≡ false → tallied (take i xs) slug ≡ tallied (take (i + 1) xs) slug
next_other xs i x slug within is other =
    let there : owns slug (take (i + 1) xs) ≡ owns slug (take i xs) = owns_next slug xs i x within is ∙ (rw other (neither (owns slug (take i xs)))) in
    let held : count_by (holds_for slug) (take (i + 1) xs) ≡ count_by (holds_for slug) (take i xs) + 0 = picked (holds_for slug) false x.1.held xs i x within is (ap (λ (b : Bool). b && x.1.held) other) in
    let returned : count_by (returned_by slug) (take (i + 1) xs) ≡ count_by (returned_by slug) (take i xs) + 0 = picked (returned_by slug) false (not x.1.held) xs i x within is (ap (λ (b : Bool). b && not x.1.held) other) in
    let same_held : count_by (holds_for slug) (take i xs) ≡ count_by (holds_for slug) (take (i + 1) xs) = omega (arith, held) in
    let same_returned : count_by (returned_by slug) (take i xs) ≡ count_by (returned_by slug) (take (i + 1) xs) = omega (arith, returned) in
    rw there (ap (λ (t : Tally). if owns slug (take i xs) then Some t else None) (ap (λ (n : ℕ). tally n (count_by (returned_by slug) (take i xs))) same_held ∙ ap (λ (n : ℕ). tally (count_by (holds_for slug) (take (i + 1) xs)) n) same_returned))

-- the tallies after one more number
pub tallied_next : (old new : BTreeMap (List ℕ) Tally) (xs : List Pair) (i : ℕ) (x : Pair) → i < length xs → x ≡ get_or xs i x → ((slug : List ℕ) → get (slice_cmp nat_cmp) old slug ≡ tallied (take i xs) slug)
    → ((slug : List ℕ) → get (slice_cmp nat_cmp) new slug ≡ (if bytes_eq x.1.org slug then Some (with_number (unwrap_or (get (slice_cmp nat_cmp) old x.1.org) zero) x.1.held) else get (slice_cmp nat_cmp) old slug))
    → (slug : List ℕ) → get (slice_cmp nat_cmp) new slug ≡ tallied (take (i + 1) xs) slug
tallied_next old new xs i x within is so_far step slug = elim (cases_Bool (bytes_eq x.1.org slug)) [
  | inl e ↦
      let same : x.1.org ≡ slug = (bytes_eq-Decides x.1.org slug).0 e in
      step slug ∙ rw e (ap (λ (o : Option Tally). Some (with_number (unwrap_or o zero) x.1.held)) (so_far x.1.org) ∙ (next_own xs i x within is ∙ ap (tallied (take (i + 1) xs)) same))
  | inr e ↦ step slug ∙ rw e (so_far slug ∙ next_other xs i x slug within is (flipped x.1.org slug e))
]

pub tally_below : (m : BTreeMap (List ℕ) Tally) (xs : List Pair) (i : ℕ) (slug : List ℕ) → i < length xs → ((slug : List ℕ) → get (slice_cmp nat_cmp) m slug ≡ tallied (take i xs) slug)
    → ((unwrap_or (get (slice_cmp nat_cmp) m slug) zero).held ≤ i) × ((unwrap_or (get (slice_cmp nat_cmp) m slug) zero).returned ≤ i)
tally_below m xs i slug within so_far =
    let is : unwrap_or (get (slice_cmp nat_cmp) m slug) zero ≡ tally_for (take i xs) slug = ap (λ (o : Option Tally). unwrap_or o zero) (so_far slug) ∙ unwrapped slug (take i xs) in
    let short : length (take i xs) ≡ i = length-take-le i xs (omega arith) in
    rw is ((let most = count_by-le-length (holds_for slug) (take i xs) in omega (arith, short)), (let most = count_by-le-length (returned_by slug) (take i xs) in omega (arith, short)))

pub tallied_start : (m : BTreeMap (List ℕ) Tally) (xs : List Pair) → m.entries ≡ [] → (slug : List ℕ) → get (slice_cmp nat_cmp) m slug ≡ tallied (take 0 xs) slug
tallied_start m xs none slug = rw none refl

pub all_tallied : (m : BTreeMap (List ℕ) Tally) (xs : List Pair) (i : ℕ) → length xs ≤ i → ((slug : List ℕ) → get (slice_cmp nat_cmp) m slug ≡ tallied (take i xs) slug) → (slug : List ℕ) → get (slice_cmp nat_cmp) m slug ≡ tallied xs slug
all_tallied m xs i over all slug = all slug ∙ ap (λ (l : List Pair). tallied l slug) (take_all i xs over)

pub tally_set : (old new : BTreeMap (List ℕ) Tally) (org : List ℕ) (t : Tally) → Updates (slice_cmp nat_cmp) old new org (Some t) → (slug : List ℕ)
    → get (slice_cmp nat_cmp) new slug ≡ (if bytes_eq org slug then Some t else get (slice_cmp nat_cmp) old slug)
tally_set old new org t updates slug = updates.0 slug ∙ ap (λ (b : Bool). cond b (Some t) (get (slice_cmp nat_cmp) old slug)) (is_eq-slice_cmp org slug)
