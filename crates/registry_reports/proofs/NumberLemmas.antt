-- The numbers that are not free, and the organisations, are written line by line.
use Rattle.std.proofs.Common.{◌≡◌, ℕ, zero, suc, ◌+◌, ◌<◌, ◌≤◌, true, false, List, [], ◌∷◌, ◌++◌, length, take, get_or, Option, Some, None, nat_eq, Ordering, Less, Greater, refl, sym, ap, ◌∙◌, ◌⊎◌, inl, inr, arith, append_assoc, add-one}
use Rattle.std.specs.Prelude.{if◌then◌else◌}
use Rattle.std.specs.Ordering.{nat_cmp, ordering_then}
use Rattle.std.specs.Option.{option_map}
use Rattle.std.specs.List.{AllByRecursion}
use Rattle.std.specs.List.Sorted.{IsStrictlySortedBy}
use Rattle.std.proofs.lemmas.Bool.{cases_Bool, cases_lt, cases_eq, eq-eqb, ne_eqb}
use Rattle.std.proofs.lemmas.List.{append-nil}
use Rattle.usbnum_core.specs.declared.number.Number.{Number}
use Rattle.usbnum_core.specs.declared.number.Span.{Span}
use Rattle.registry_rules.specs.Number.{number, number_eq}
use Rattle.registry_rules.specs.declared.record.Org.{Org}
use Rattle.registry_reports.specs.Order.{by_ids, Ascends}
use Rattle.registry_reports.specs.Census.{listed}
use Rattle.registry_reports.specs.Organisations.{org_line, org_lines}
use Rattle.registry_reports.specs.Numbers.{lines_to, line_at, number_lines, listed_entry, ComesBefore, ArePassed, IsPlace}
use Rattle.registry_reports.proofs.CensusLemmas.{Pair}
use Rattle.registry_reports.proofs.OrderLemmas.{then_less}
use Rattle.registry_reports.proofs.ListLemmas.{Joins, joins_next}

-- ---- organisations

orgs_join : Joins org_lines
orgs_join = record { none = refl; more = λ x xs. ap (λ (l : List ℕ). l ++ org_lines xs) (sym (append-nil (org_line x))) }

pub orgs_next : (xs : List Org) (i : ℕ) (x : Org) (now next : List ℕ) → i < length xs → x ≡ get_or xs i x → now ≡ org_lines (take i xs) → next ≡ now ++ org_line x → next ≡ org_lines (take (i + 1) xs)
orgs_next xs i x now next within is so_far step =
    step ∙ (ap (λ (l : List ℕ). l ++ org_line x) so_far ∙ (ap (λ (l : List ℕ). org_lines (take i xs) ++ l) (sym (append-nil (org_line x))) ∙ sym (joins_next org_lines orgs_join xs i x within is)))

-- ---- vendors

abbrev vendor_lines : List Pair → ℕ × List Span → List ℕ
vendor_lines numbers pair = lines_to (line_at numbers pair) 65535

vendors_join : (numbers : List Pair) → Joins (number_lines numbers)
vendors_join numbers = record { none = refl; more = λ x xs. ap (λ (l : List ℕ). l ++ number_lines numbers xs) (sym (append-nil (vendor_lines numbers x))) }

pub vendor_next : (numbers : List Pair) (xs : List (ℕ × List Span)) (i : ℕ) (x : ℕ × List Span) (now next : List ℕ) → i < length xs → x ≡ get_or xs i x
    → now ≡ number_lines numbers (take i xs) → next ≡ now ++ vendor_lines numbers x → next ≡ number_lines numbers (take (i + 1) xs)
vendor_next numbers xs i x now next within is so_far step =
    step ∙ (ap (λ (l : List ℕ). l ++ vendor_lines numbers x) so_far ∙ (ap (λ (l : List ℕ). number_lines numbers (take i xs) ++ l) (sym (append-nil (vendor_lines numbers x))) ∙ sym (joins_next (number_lines numbers) (vendors_join numbers) xs i x within is)))

-- one product ID more
pub line_next : (line : ℕ → List ℕ) (n : ℕ) (start now next : List ℕ) → now ≡ start ++ lines_to line n → next ≡ now ++ line (n + 1) → next ≡ start ++ lines_to line (n + 1)
unfolding lines_to
line_next line n start now next so_far step =
    let one : n + 1 ≡ suc n = add-one n in
    rw one (step ∙ (ap (λ (l : List ℕ). l ++ line (n + 1)) so_far ∙ (append_assoc start (lines_to line n) (line (n + 1)) ∙ ap (λ (m : ℕ). start ++ (lines_to line n ++ line m)) one)))

pub line_start : (line : ℕ → List ℕ) (start : List ℕ) → start ≡ start ++ lines_to line 0
unfolding lines_to
line_start line start = sym (append-nil start)

-- ---- the place of a number in a list that ascends

-- an entry that comes before a number comes before the next one
later : (vid pid : ℕ) (x : Pair) → ComesBefore (number vid pid) x → ComesBefore (number vid (pid + 1)) x
later vid pid x (inl less) = inl less
later vid pid x (inr same) = inr (same.0, let less = same.1 in omega (arith, less))

pub still_passed : (numbers : List Pair) (vid pid place : ℕ) → ArePassed numbers (number vid pid) place → ArePassed numbers (number vid (pid + 1)) place
still_passed numbers vid pid place passed k d low high = later vid pid (get_or numbers k d) (passed k d low high)

pub one_passed : (numbers : List Pair) (n : Number) (place : ℕ) → ((d : Pair) → ComesBefore n (get_or numbers place d)) → ArePassed numbers n place → ArePassed numbers n (place + 1)
one_passed numbers n place here passed k d low high = elim (cases_lt k place) [
  | inl below ↦ passed k d low below
  | inr at ↦ let is : k ≡ place = omega arith in rw is (here d)
]

other : (n : Number) (x : Pair) → ComesBefore n x → number_eq n x.0 ≡ false
other n x (inl less) = let e : nat_eq n.vid x.0.vid ≡ false = ne_eqb n.vid x.0.vid (λ s. omega (arith, s, less)) in rw e refl
other n x (inr same) = let e : nat_eq n.pid x.0.pid ≡ false = let less = same.1 in ne_eqb n.pid x.0.pid (λ s. omega (arith, s, less)) in elim (cases_Bool (nat_eq n.vid x.0.vid)) [ inl v ↦ rw (v, e) refl | inr v ↦ rw v refl ]

-- the number is less than an entry's that neither comes before it nor is its own
abbrev Precedes : Number → Pair → Type 0
Precedes n x = (n.vid < x.0.vid) ⊎ ((n.vid ≡ x.0.vid) × (n.pid < x.0.pid))

comes_after : (n : Number) (x : Pair) → ¬ ComesBefore n x → number_eq n x.0 ≡ false → Precedes n x
comes_after n x stands differ = elim (cases_lt n.vid x.0.vid) [
  | inl less ↦ inl less
  | inr more ↦ elim (cases_eq n.vid x.0.vid) [
    | inr unlike ↦ absurd (stands (inl (omega (arith, more, unlike))))
    | inl vids ↦ elim (cases_lt n.pid x.0.pid) [
      | inl less ↦ inr (vids, less)
      | inr least ↦ elim (cases_eq n.pid x.0.pid) [
        | inr unlike ↦ absurd (stands (inr (sym vids, omega (arith, least, unlike))))
        | inl pids ↦ absurd (let v = eq-eqb n.vid x.0.vid vids in let p = eq-eqb n.pid x.0.pid pids in let all : number_eq n x.0 ≡ true = rw (v, p) refl in let never : true ≡ false = sym all ∙ differ in cc)
      ]
    ]
  ]
]

is_less : (a b : ℕ) → nat_cmp a b ≡ Less → a < b
is_less a b l = grind arith

past : (a b : ℕ) (d : Ordering) → b < a → ordering_then (nat_cmp a b) d ≡ Less → ⊥
past a b d more less = let e : nat_cmp a b ≡ Greater = grind arith in let never : Greater ≡ Less = ap (λ (o : Ordering). ordering_then o d) (sym e) ∙ less in cc

ordered : (x y : Pair) → by_ids x y ≡ Less → Precedes x.0 y
ordered x y less = elim (cases_lt x.0.vid y.0.vid) [
  | inl below ↦ inl below
  | inr more ↦ elim (cases_eq x.0.vid y.0.vid) [
    | inl same ↦ inr (same, is_less x.0.pid y.0.pid (then_less x.0.vid y.0.vid (nat_cmp x.0.pid y.0.pid) same less))
    | inr unlike ↦ absurd (past x.0.vid y.0.vid (nat_cmp x.0.pid y.0.pid) (omega (arith, more, unlike)) less)
  ]
]

both_precede : (n : Number) (x y : Pair) → Precedes n x → Precedes x.0 y → Precedes n y
both_precede n x y (inl a) (inl b) = inl (omega (arith, a, b))
both_precede n x y (inl a) (inr b) = inl (let e = b.0 in omega (arith, a, e))
both_precede n x y (inr a) (inl b) = inl (let e = a.0 in omega (arith, b, e))
both_precede n x y (inr a) (inr b) = inr (a.0 ∙ b.0, let l = a.1 in let m = b.1 in omega (arith, l, m))

unlike_later : (n : Number) (x : Pair) → Precedes n x → number_eq n x.0 ≡ false
unlike_later n x (inl less) = let e : nat_eq n.vid x.0.vid ≡ false = ne_eqb n.vid x.0.vid (λ s. omega (arith, s, less)) in rw e refl
unlike_later n x (inr same) = let e : nat_eq n.pid x.0.pid ≡ false = let less = same.1 in ne_eqb n.pid x.0.pid (λ s. omega (arith, s, less)) in elim (cases_Bool (nat_eq n.vid x.0.vid)) [ inl v ↦ rw (v, e) refl | inr v ↦ rw v refl ]

follows : (n : Number) (x y : Pair) → Precedes n x → by_ids x y ≡ Less → number_eq n y.0 ≡ false
follows n x y before less = unlike_later n y (both_precede n x y before (ordered x y less))

none_after : (n : Number) (x : Pair) (ys : List Pair) → Precedes n x → AllByRecursion (λ y. by_ids x y ≡ Less) ys → listed ys n ≡ None
none_after n x [] before below = refl
none_after n x (y ∷ ys) before below = rw (follows n x y before below.0) (none_after n x ys before below.1)

abbrev pub its : Number → Pair → Option Pair
its n x = if number_eq n x.0 then Some x else None

-- at the place of a number is its entry, if the list has one
its_entry : (n : Number) (xs : List Pair) (place : ℕ) (d : Pair) → Ascends xs → ((k : ℕ) (e : Pair) → k < place → ComesBefore n (get_or xs k e)) → ¬ ComesBefore n (get_or xs place d) → place < length xs → listed xs n ≡ its n (get_or xs place d)
unfolding IsStrictlySortedBy
its_entry n [] place d up passed stands within = absurd (omega (arith, within))
its_entry n (x ∷ xs) zero d up passed stands within = elim (cases_Bool (number_eq n x.0)) [
  | inl e ↦ rw e refl
  | inr e ↦ rw e (none_after n x xs (comes_after n x stands e) up.0)
]
its_entry n (x ∷ xs) (suc i) d up passed stands within =
    rw (other n x (passed 0 d (omega arith))) (its_entry n xs i d up.1 (λ k e low. passed (suc k) e (omega (arith, low))) stands (omega (arith, within)))

-- and none if all entries come before it
all_before : (n : Number) (xs : List Pair) (place : ℕ) → ((k : ℕ) (e : Pair) → k < place → ComesBefore n (get_or xs k e)) → length xs ≤ place → listed xs n ≡ None
all_before n [] place passed over = refl
all_before n (x ∷ xs) zero passed over = absurd (omega (arith, over))
all_before n (x ∷ xs) (suc i) passed over = rw (other n x (passed 0 x (omega arith))) (all_before n xs i (λ k e low. passed (suc k) e (omega (arith, low))) (omega (arith, over)))

pub entry_at_place : (n : Number) (xs : List Pair) (place : ℕ) (d : Pair) → Ascends xs → IsPlace xs n place → place < length xs → listed_entry xs n ≡ option_map (λ (pair : Pair). pair.1) (its n (get_or xs place d))
entry_at_place n xs place d up is within = ap (option_map (λ (pair : Pair). pair.1)) (its_entry n xs place d up (λ k e low. is.passed k e (omega arith) low) (is.stands d within) within)

pub no_entry_past : (n : Number) (xs : List Pair) (place : ℕ) → IsPlace xs n place → length xs ≤ place → listed_entry xs n ≡ None
no_entry_past n xs place is over = ap (option_map (λ (pair : Pair). pair.1)) (all_before n xs place (λ k e low. is.passed k e (omega arith) low) over)
