-- Cutting and joining lists of spans.
use Rattle.std.proofs.Common.{◌≡◌, ℕ, ◌<◌, ◌≤◌, ◌⊎◌, inl, inr, Bool, true, false, not, cond, ◌&&◌, ◌||◌, nat_eq, nat_le, List, [], ◌∷◌, ◌++◌, filter, refl, sym, ap, subst, ◌∙◌, arith}
use Rattle.std.specs.List.{AllByRecursion, list_any}
use Rattle.std.proofs.lemmas.Bool.{and_parts, and_from, and_cases, or_left, or_right, eqb-true, eq-eqb, eqb-false, leb-true, leb-false, le-leb}
use Rattle.std.proofs.lemmas.List.Folds.{list_any-append}
use Rattle.sqlite_trees.specs.Tree.{IsAscending}
use Rattle.sqlite_keyed.specs.Lists.{delete_where, sort_by}
use Rattle.sqlite_keyed.proofs.ListLemmas.{all_weaker, all_both, all-filter, all-append, filter_all, ascending-filter}
use Rattle.usbnum_core.specs.Spans.{span_has}
use Rattle.usbnum_core.specs.declared.number.Number.{Number}
use Rattle.usbnum_core.specs.declared.number.Span.{Span}
use Rattle.registry_rows.specs.Rows.{meets, begins_at, by_beginning}
use Rattle.registry_rows.proofs.StepLemmas.{valid_sorted}
use Rattle.registry_tables.specs.Rows.{vendor_span_has, AreApart}
use Rattle.registry_tables.specs.Reserved.{Reaches}
use Rattle.registry_tables.proofs.SortLemmas.{any_sorted, or_swapped}

-- ---- lists

or_between : (a b c : Bool) → (a || (b || c)) ≡ ((a || b) || c)
or_between true b c = refl
or_between false b c = refl

module _ {X : Type 0} where
  pub any_split : (test p : X → Bool) (xs : List X) → list_any test xs ≡ (list_any test (filter p xs) || list_any test (delete_where p xs))
  any_split test p [] = refl
  any_split test p (x ∷ xs) = go (p x) (any_split test p xs)
    where
      cut : List X
      cut = filter p xs

      kept : List X
      kept = delete_where p xs

      go : (b : Bool) → list_any test xs ≡ (list_any test cut || list_any test kept)
          → (test x || list_any test xs) ≡ (list_any test (cond b (x ∷ cut) cut) || list_any test (cond (not b) (x ∷ kept) kept))
      go true more = ap (λ b. test x || b) more ∙ or_between (test x) (list_any test cut) (list_any test kept)
      go false more = ap (λ b. test x || b) more ∙ or_swapped (test x) (list_any test cut) (list_any test kept)

  -- each kept value relates to each cut value as two of the list do
  pub crossing : (R : X → X → Type 0) → ((a b : X) → R a b → R b a) → (p : X → Bool) (xs : List X) → IsAscending R xs
      → AllByRecursion (λ s. AllByRecursion (λ k. R k s) (delete_where p xs)) (filter p xs)
  crossing R turn p [] up = tt
  crossing R turn p (x ∷ xs) up = go (p x) (crossing R turn p xs up.1)
    where
      cut : List X
      cut = filter p xs

      kept : List X
      kept = delete_where p xs

      go : (b : Bool) → AllByRecursion (λ s. AllByRecursion (λ k. R k s) kept) cut
          → AllByRecursion (λ s. AllByRecursion (λ k. R k s) (cond (not b) (x ∷ kept) kept)) (cond b (x ∷ cut) cut)
      go true more = (all_weaker (R x) (λ k. R k x) (λ k r. turn x k r) kept (all-filter (R x) (λ k. not (p k)) xs up.0), more)
      go false more =
          all_both (R x) (λ s. AllByRecursion (λ k. R k s) kept) (λ s. (R x s) × AllByRecursion (λ k. R k s) kept) (λ s one all. (one, all)) cut (all-filter (R x) p xs up.0) more

  pub some_of : (q : X → Bool) (P : X → Type 0) (xs : List X) → list_any q xs ≡ true → AllByRecursion P xs → (x : X) × (q x ≡ true) × P x
  some_of q P [] any all = absurd cc
  some_of q P (x ∷ xs) any all = go (q x) refl any (λ some. some_of q P xs some all.1)
    where
      go : (b : Bool) → q x ≡ b → (b || list_any q xs) ≡ true → (list_any q xs ≡ true → (y : X) × (q y ≡ true) × P y) → (y : X) × (q y ≡ true) × P y
      go true is some later = (x, is, all.0)
      go false is some later = later some

  pub all_own : {I : Type 0} (test : I → X → Bool) (xs : List X) → AllByRecursion (λ x. (i : I) → test i x ≡ true → list_any (test i) xs ≡ true) xs
  all_own test [] = tt
  all_own {I} test (x ∷ xs) = (
    λ i is. or_left (test i x) (list_any (test i) xs) is,
    all_weaker (λ y. (i : I) → test i y ≡ true → list_any (test i) xs ≡ true) (λ y. (i : I) → test i y ≡ true → (test i x || list_any (test i) xs) ≡ true)
        (λ y told i is. or_right (test i x) (list_any (test i) xs) (told i is)) xs (all_own test xs),
  )

  pub all_passed : (p : X → Bool) (xs : List X) → AllByRecursion (λ x. p x ≡ true) (filter p xs)
  all_passed p [] = tt
  all_passed p (x ∷ xs) = go (p x) refl (all_passed p xs)
    where
      go : (b : Bool) → p x ≡ b → AllByRecursion (λ y. p y ≡ true) (filter p xs) → AllByRecursion (λ y. p y ≡ true) (cond b (x ∷ filter p xs) (filter p xs))
      go true is more = (is, more)
      go false is more = more

  pub all_left : (p : X → Bool) (xs : List X) → AllByRecursion (λ x. p x ≡ false) (delete_where p xs)
  all_left p [] = tt
  all_left p (x ∷ xs) = go (p x) refl (all_left p xs)
    where
      go : (b : Bool) → p x ≡ b → AllByRecursion (λ y. p y ≡ false) (delete_where p xs) → AllByRecursion (λ y. p y ≡ false) (cond (not b) (x ∷ delete_where p xs) (delete_where p xs))
      go true is more = more
      go false is more = (is, more)

-- ---- what the tests mean

pub met_is : (vid low high : ℕ) (s : ℕ × Span) → meets vid low high s ≡ true → (s.0 ≡ vid) × (low ≤ s.1.last) × (s.1.first ≤ high)
met_is vid low high s is =
    let one = and_parts (nat_eq s.0 vid) (nat_le low s.1.last && nat_le s.1.first high) is in
    let two = and_parts (nat_le low s.1.last) (nat_le s.1.first high) one.1 in
    (eqb-true s.0 vid one.0, leb-true low s.1.last two.0, leb-true s.1.first high two.1)

pub missed_is : (vid low high : ℕ) (s : ℕ × Span) → meets vid low high s ≡ false → s.0 ≡ vid → (s.1.last < low) ⊎ (high < s.1.first)
missed_is vid low high s is here = go (and_cases (nat_eq s.0 vid) (nat_le low s.1.last && nat_le s.1.first high) is)
  where
    go_2 : (nat_le low s.1.last ≡ false) ⊎ (nat_le s.1.first high ≡ false) → (s.1.last < low) ⊎ (high < s.1.first)
    go_2 (inl below) = inl (leb-false low s.1.last below)
    go_2 (inr above) = inr (leb-false s.1.first high above)

    go : (nat_eq s.0 vid ≡ false) ⊎ ((nat_le low s.1.last && nat_le s.1.first high) ≡ false) → (s.1.last < low) ⊎ (high < s.1.first)
    go (inl other) = absurd (eqb-false s.0 vid other here)
    go (inr out) = go_2 (and_cases (nat_le low s.1.last) (nat_le s.1.first high) out)

pub has_is : (n : Number) (s : ℕ × Span) → vendor_span_has n s ≡ true → (s.0 ≡ n.vid) × (s.1.first ≤ n.pid) × (n.pid ≤ s.1.last)
has_is n s is =
    let one = and_parts (nat_eq s.0 n.vid) (span_has s.1 n.pid) is in
    let two = and_parts (nat_le s.1.first n.pid) (nat_le n.pid s.1.last) one.1 in
    (eqb-true s.0 n.vid one.0, leb-true s.1.first n.pid two.0, leb-true n.pid s.1.last two.1)

pub has_from : (n : Number) (s : ℕ × Span) → s.0 ≡ n.vid → s.1.first ≤ n.pid → n.pid ≤ s.1.last → vendor_span_has n s ≡ true
has_from n s here low high =
    and_from (nat_eq s.0 n.vid) (span_has s.1 n.pid) (eq-eqb s.0 n.vid here) (and_from (nat_le s.1.first n.pid) (nat_le n.pid s.1.last) (le-leb s.1.first n.pid low) (le-leb n.pid s.1.last high))

pub apart_turned : (a b : ℕ × Span) → AreApart a b → AreApart b a
apart_turned a b (inl other) = inl (λ same. other (sym same))
apart_turned a b (inr (inl below)) = inr (inr below)
apart_turned a b (inr (inr above)) = inr (inl above)

-- ---- inserting a span that is apart from all others

not_begun : (new k : ℕ × Span) → AreApart k new → not (begins_at new.0 new.1.first k) ≡ true
not_begun new k apart = go (begins_at new.0 new.1.first k) refl
  where
    never : nat_eq k.0 new.0 ≡ true → nat_eq k.1.first new.1.first ≡ true → AreApart k new → ⊥
    never a b (inl other) = other (eqb-true k.0 new.0 a)
    never a b (inr (inl below)) = let e = eqb-true k.1.first new.1.first b in let own = k.1.ordered in omega arith
    never a b (inr (inr above)) = let e = eqb-true k.1.first new.1.first b in let own = new.1.ordered in omega arith

    go : (b : Bool) → begins_at new.0 new.1.first k ≡ b → not b ≡ true
    go false is = refl
    go true is = let both = and_parts (nat_eq k.0 new.0) (nat_eq k.1.first new.1.first) is in absurd (never both.0 both.1 apart)

pub none_replaced : (new : ℕ × Span) (xs : List (ℕ × Span)) → AllByRecursion (λ k. AreApart k new) xs → delete_where (begins_at new.0 new.1.first) xs ≡ xs
none_replaced new xs apart =
    filter_all (λ k. not (begins_at new.0 new.1.first k)) xs (all_weaker (λ k. AreApart k new) (λ k. not (begins_at new.0 new.1.first k) ≡ true) (not_begun new) xs apart)

-- ---- the spans found and the spans kept

pub record IsCut (vid low high : ℕ) (spans found kept : List (ℕ × Span)) : Type 0 where
  pub met : AllByRecursion (λ s. meets vid low high s ≡ true) found
  pub missed : AllByRecursion (λ k. meets vid low high k ≡ false) kept
  pub apart : AllByRecursion (λ s. AllByRecursion (λ k. AreApart k s) kept) found
  pub ascend : IsAscending AreApart kept
  pub all : (n : Number) → list_any (vendor_span_has n) spans ≡ (list_any (vendor_span_has n) found || list_any (vendor_span_has n) kept)

pub is_cut : (vid low high : ℕ) (spans found : List (ℕ × Span)) → IsAscending AreApart spans → found ≡ sort_by by_beginning (filter (meets vid low high) spans)
    → IsCut vid low high spans found (delete_where (meets vid low high) spans)
is_cut vid low high spans found up is =
    let p = meets vid low high in
    let kept = delete_where p spans in
    record {
      met = subst (AllByRecursion (λ s. p s ≡ true)) (sym is) (valid_sorted (λ s. p s ≡ true) by_beginning (filter p spans) (all_passed p spans));
      missed = all_left p spans;
      apart = subst (AllByRecursion (λ s. AllByRecursion (λ k. AreApart k s) kept)) (sym is)
          (valid_sorted (λ s. AllByRecursion (λ k. AreApart k s) kept) by_beginning (filter p spans) (crossing AreApart apart_turned p spans up));
      ascend = ascending-filter AreApart (λ k. not (p k)) spans up;
      all = λ n. any_split (vendor_span_has n) p spans
          ∙ ap (λ b. b || list_any (vendor_span_has n) kept) (sym (ap (list_any (vendor_span_has n)) is ∙ any_sorted by_beginning (vendor_span_has n) (filter p spans)));
    }

-- one of the spans found
pub record IsFound (vid low high : ℕ) (found kept : List (ℕ × Span)) (s : ℕ × Span) : Type 0 where
  pub met : meets vid low high s ≡ true
  pub apart : AllByRecursion (λ k. AreApart k s) kept
  pub own : (n : Number) → vendor_span_has n s ≡ true → list_any (vendor_span_has n) found ≡ true

pub all_found : (vid low high : ℕ) (spans found kept : List (ℕ × Span)) → IsCut vid low high spans found kept → AllByRecursion (IsFound vid low high found kept) found
all_found vid low high spans found kept cut =
    let Own : ℕ × Span → Type 0 = λ s. (n : Number) → vendor_span_has n s ≡ true → list_any (vendor_span_has n) found ≡ true in
    let Met : ℕ × Span → Type 0 = λ s. meets vid low high s ≡ true in
    let Apart : ℕ × Span → Type 0 = λ s. AllByRecursion (λ k. AreApart k s) kept in
    all_both (λ s. Met s × Apart s) Own (IsFound vid low high found kept) (λ s a own. record { met = a.0; apart = a.1; own = own }) found
    (all_both Met Apart (λ s. Met s × Apart s) (λ s m a. (m, a)) found cut.met cut.apart) (all_own vendor_span_has found)

-- ---- how far the spans found reach

edge_more : (key : ℕ × Span → ℕ) (xs : List (ℕ × Span)) (x : ℕ × Span) (own was now : ℕ) → (was ≡ own) ⊎ (list_any (λ s. nat_eq (key s) was) xs ≡ true) → (now ≡ was) ⊎ (now ≡ key x)
    → (now ≡ own) ⊎ (list_any (λ s. nat_eq (key s) now) (xs ++ x ∷ []) ≡ true)
edge_more key xs x own was now (inl e) (inl same) = inl (same ∙ e)
edge_more key xs x own was now (inr any) (inl same) =
    inr
    (list_any-append (λ s. nat_eq (key s) now) xs (x ∷ [])
    ∙ or_left (list_any (λ s. nat_eq (key s) now) xs) (list_any (λ s. nat_eq (key s) now) (x ∷ [])) (subst (λ k. list_any (λ s. nat_eq (key s) k) xs ≡ true) (sym same) any))
edge_more key xs x own was now e (inr here) =
    inr
    (list_any-append (λ s. nat_eq (key s) now) xs (x ∷ [])
    ∙ or_right (list_any (λ s. nat_eq (key s) now) xs) (list_any (λ s. nat_eq (key s) now) (x ∷ [])) (or_left (nat_eq (key x) now) false (eq-eqb (key x) now (sym here))))

pub reaches_more : (span : Span) (xs : List (ℕ × Span)) (x : ℕ × Span) (least greatest less more : ℕ) → Reaches span xs least greatest
    → less ≤ least → less ≤ x.1.first → (less ≡ least) ⊎ (less ≡ x.1.first) → greatest ≤ more → x.1.last ≤ more → (more ≡ greatest) ⊎ (more ≡ x.1.last)
    → Reaches span (xs ++ x ∷ []) less more
reaches_more span xs x least greatest less more was a b from c d to =
    let Old : ℕ × Span → Type 0 = λ s. (least ≤ s.1.first) × (s.1.last ≤ greatest) in
    let New : ℕ × Span → Type 0 = λ s. (less ≤ s.1.first) × (s.1.last ≤ more) in
    record {
      below = omega arith;
      above = omega arith;
      around = all-append New xs (x ∷ []) (all_weaker Old New (λ s h. (omega (arith, h.0), omega (arith, h.1))) xs was.around) ((b, d), tt);
      from = edge_more (λ s. s.1.first) xs x span.first least less was.from from;
      to = edge_more (λ s. s.1.last) xs x span.last greatest more was.to to;
    }
