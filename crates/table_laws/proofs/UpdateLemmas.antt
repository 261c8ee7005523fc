-- What UPDATE does to the values that a table stores.
use Rattle.std.proofs.Common.{◌≡◌, ◌≢◌, ℕ, suc, length, ℤ, pos, negsuc, ◌<ℤ◌, Bool, true, false, not, cond, List, [], ◌∷◌, map, filter, fold, drop, None, refl, sym, ap, ap₂, ◌∙◌, arith, int_cmp, int_eq, Ordering, Less, Equal, Greater}
use Rattle.std.specs.List.{AllByRecursion, list_all, list_any}
use Rattle.std.specs.List.Sorted.{IsPermutation}
use Rattle.std.specs.Ordering.{match_ordering}
use Rattle.std.proofs.lemmas.Int.{ints}
use Rattle.std.proofs.lemmas.List.Sorted.{IsPermutation-map, length_permutation}
use Rattle.sqlite.specs.declared.types.Value.TheVariants.{Int}
use Rattle.sqlite.specs.Order.{Row}
use Rattle.sqlite.specs.Tree.{Trees, rowid, put_row}
use Rattle.sqlite.specs.Table.{Table}
use Rattle.sqlite.specs.Term.{Term, lit, col, holds, eval_all}
use Rattle.sqlite.specs.Query.{Query, Output, inner, end, output, IsAnswer}
use Rattle.sqlite.specs.Cast.{cast_row}
use Rattle.sqlite.specs.Edit.{put_all, without_all, id_in}
use Rattle.sqlite_rules.specs.Calls.{ids_of}
use Rattle.sqlite_trees.specs.Tree.{IsAscending}
use Rattle.sqlite_trees.proofs.ListLemmas.{along_permutation, pull_back}
use Rattle.sqlite_keyed.specs.Keyed.{IsKeyedBy, insert_by}
use Rattle.sqlite_keyed.specs.Lists.{update_where, delete_where}
use Rattle.sqlite_keyed.proofs.KeyedLemmas.{Less-from_lt, IsKeyedBy-update_where}
use Rattle.sqlite_keyed.proofs.WriteLemmas.{removes_delete}
use Rattle.sqlite_keyed.proofs.ListLemmas.{map-map, map_same, all-filter, all_map, all_weaker, ascending-filter, ascending-map, ascending_weaker}
use Rattle.sqlite_typed.proofs.AnswerLemmas.{matches_are}
use Rattle.sqlite_typed.proofs.RowLemmas.{puts-map, deletes-map}
use Rattle.table_laws.specs.Stored.{Stores, StoresUnnumbered}
use Rattle.table_laws.proofs.ReadLemmas.{source}
use Rattle.table_laws.proofs.DeleteLemmas.{in_any_order}

-- ---- lists in the order of a key

module _ {X : Type 0} (key : X → ℤ) where
  abbrev differs : X → X → Type 0
  differs a b = int_eq (key a) (key b) ≡ false

  -- values with distinct keys may be inserted in either order
  either_first : (a b : X) → differs a b → (xs : List X) → insert_by key (insert_by key xs a) b ≡ insert_by key (insert_by key xs b) a
  either_first a b apart [] = go (int_cmp (key a) (key b)) (int_cmp (key b) (key a)) refl refl
    where
      go : (o p : Ordering) → int_cmp (key a) (key b) ≡ o → int_cmp (key b) (key a) ≡ p → match_ordering o (a ∷ b ∷ []) (b ∷ []) (b ∷ a ∷ []) ≡ match_ordering p (b ∷ a ∷ []) (a ∷ []) (a ∷ b ∷ [])
      go Less Greater x y = refl
      go Greater Less x y = refl
      go Less Less x y = absurd (grind (arith, ints))
      go Greater Greater x y = absurd (grind (arith, ints))
      go Equal p x y = absurd (grind (arith, ints))
      go Less Equal x y = absurd (grind (arith, ints))
      go Greater Equal x y = absurd (grind (arith, ints))
  either_first a b apart (y ∷ ys) = go (int_cmp (key y) (key a)) (int_cmp (key y) (key b)) refl refl (either_first a b apart ys)
    where
      with_a : List X
      with_a = insert_by key ys a

      with_b : List X
      with_b = insert_by key ys b

      both_above : (o : Ordering) → int_cmp (key a) (key b) ≡ o → int_cmp (key y) (key a) ≡ Greater → int_cmp (key y) (key b) ≡ Greater → insert_by key (a ∷ y ∷ ys) b ≡ insert_by key (b ∷ y ∷ ys) a
      both_above Less w x z = let back : int_cmp (key b) (key a) ≡ Greater = grind (arith, ints) in rw (w, back, z) refl
      both_above Equal w x z = absurd (grind (arith, ints))
      both_above Greater w x z = let back : int_cmp (key b) (key a) ≡ Less = grind (arith, ints) in rw (w, back, x) refl

      go : (o p : Ordering) → int_cmp (key y) (key a) ≡ o → int_cmp (key y) (key b) ≡ p → insert_by key with_a b ≡ insert_by key with_b a
          → insert_by key (match_ordering o (y ∷ with_a) (a ∷ ys) (a ∷ y ∷ ys)) b ≡ insert_by key (match_ordering p (y ∷ with_b) (b ∷ ys) (b ∷ y ∷ ys)) a
      go Less Less x z more = rw (x, z) (ap (λ l. y ∷ l) more)
      go Less Equal x z more = let here : int_cmp (key b) (key a) ≡ Less = grind (arith, ints) in rw (z, here) refl
      go Less Greater x z more = let here : int_cmp (key b) (key a) ≡ Less = grind (arith, ints) in rw (z, here, x) refl
      go Equal Less x z more = let here : int_cmp (key a) (key b) ≡ Less = grind (arith, ints) in rw (here, x) refl
      go Equal Equal x z more = absurd (grind (arith, ints))
      go Equal Greater x z more = let here : int_cmp (key a) (key b) ≡ Greater = grind (arith, ints) in let back : int_cmp (key b) (key a) ≡ Less = grind (arith, ints) in rw (here, back, x) refl
      go Greater Less x z more = let here : int_cmp (key a) (key b) ≡ Less = grind (arith, ints) in rw (here, z, x) refl
      go Greater Equal x z more = let here : int_cmp (key a) (key b) ≡ Less = grind (arith, ints) in let back : int_cmp (key b) (key a) ≡ Greater = grind (arith, ints) in rw (here, back, z) refl
      go Greater Greater x z more = both_above (int_cmp (key a) (key b)) refl x z

  abbrev SamePuts : List X → List X → Type 0
  SamePuts a b = ((k : ℤ) → AllByRecursion (λ y. int_eq k (key y) ≡ false) a → AllByRecursion (λ y. int_eq k (key y) ≡ false) b)
      × (IsAscending differs a → IsAscending differs b × ((xs : List X) → fold (insert_by key) xs a ≡ fold (insert_by key) xs b))

  turned : (a b : X) → differs a b → differs b a
  turned a b apart = grind (arith, ints)

  pub puts_in_any_order : (a b : List X) → IsPermutation a b → SamePuts a b
  puts_in_any_order = along_permutation SamePuts (λ xs. (λ k all. all, λ up. (up, λ ys. refl)))
      (λ x a b h. (λ k all. (all.0, h.0 k all.1), λ up. (let rest = h.1 up.1 in ((h.0 (key x) up.0, rest.0), λ ys. rest.1 (insert_by key ys x)))))
      (λ x y xs. (λ k all. (all.1.0, (all.0, all.1.1)), λ up. (((turned x y up.0.0, up.1.0), (up.0.1, up.1.1)), λ ys. ap (λ l. fold (insert_by key) l xs) (either_first x y up.0.0 ys))))
      (λ a b c p q. (λ k all. q.0 k (p.0 k all), λ up. (let one = p.1 up in let two = q.1 one.0 in (two.0, λ ys. one.1 ys ∙ two.1 ys))))

  below_all : (new : X) (xs : List X) → AllByRecursion (λ y. key new <ℤ key y) xs → insert_by key xs new ≡ new ∷ xs
  below_all new [] above = refl
  below_all new (x ∷ xs) above = let less = above.0 in let here : int_cmp (key x) (key new) ≡ Greater = grind (arith, ints) in rw here refl

  puts_past : (news : List X) (x : X) (xs : List X) → AllByRecursion (λ n. key x <ℤ key n) news → fold (insert_by key) (x ∷ xs) news ≡ x ∷ fold (insert_by key) xs news
  puts_past [] x xs above = refl
  puts_past (n ∷ news) x xs above = rw (Less-from_lt (key x) (key n) above.0) (puts_past news x (insert_by key xs n) above.1)

  -- removing values and inserting them changed is changing them in place
  pub puts_back : (p : X → Bool) (f : X → X) → ((x : X) → key (f x) ≡ key x) → (xs : List X) → IsKeyedBy key xs → fold (insert_by key) (delete_where p xs) (map f (filter p xs)) ≡ update_where p f xs
  puts_back p f keeps [] up = refl
  puts_back p f keeps (x ∷ xs) up = go (p x) (puts_back p f keeps xs up.1)
    where
      later : (y : X) → key y ≡ key x → AllByRecursion (λ n. key y <ℤ key n) (map f (filter p xs))
      later y same = all_map _ f _ (all-filter _ p xs (all_weaker _ (λ n. key y <ℤ key (f n)) (λ n h. rw (same, keeps n) h) xs up.0))

      left : (y : X) → key y ≡ key x → AllByRecursion (λ n. key y <ℤ key n) (delete_where p xs)
      left y same = all-filter _ (λ z. not (p z)) xs (all_weaker _ (λ n. key y <ℤ key n) (λ n h. rw same h) xs up.0)

      go : (b : Bool) → fold (insert_by key) (delete_where p xs) (map f (filter p xs)) ≡ update_where p f xs
          → fold (insert_by key) (cond (not b) (x ∷ delete_where p xs) (delete_where p xs)) (map f (cond b (x ∷ filter p xs) (filter p xs))) ≡ cond b (f x) x ∷ update_where p f xs
      go true more =
          ap (λ l. fold (insert_by key) l (map f (filter p xs))) (below_all (f x) (delete_where p xs) (left (f x) (keeps x)))
          ∙ puts_past _ (f x) (delete_where p xs) (later (f x) (keeps x)) ∙ ap (λ l. f x ∷ l) more
      go false more = puts_past _ x (delete_where p xs) (later x refl) ∙ ap (λ l. x ∷ l) more

-- changing the value that has this key into another one inserts that
pub changed_is_inserted : {X : Type 0} (key : X → ℤ) (x : X) (f : X → X) → ((y : X) → int_eq (key y) (key x) ≡ true → f y ≡ x) → (xs : List X) → IsKeyedBy key xs
    → list_any (λ y. int_eq (key y) (key x)) xs ≡ true → update_where (λ y. int_eq (key y) (key x)) f xs ≡ insert_by key xs x
changed_is_inserted key x f makes [] up some = absurd (let never = some in cc)
changed_is_inserted {X} key x f makes (y ∷ ys) up some = go (int_cmp (key y) (key x)) refl (λ later. changed_is_inserted key x f makes ys up.1 later)
  where
    apart_above : (zs : List X) → AllByRecursion (λ z. key x <ℤ key z) zs → (update_where (λ z. int_eq (key z) (key x)) f zs ≡ zs) × (list_any (λ z. int_eq (key z) (key x)) zs ≡ false)
    apart_above [] all = (refl, refl)
    apart_above (z ∷ zs) all =
        let less = all.0 in
        let apart : int_eq (key z) (key x) ≡ false = grind (arith, ints) in
        let more = apart_above zs all.1 in
        rw apart (ap (λ l. z ∷ l) more.0, more.1)

    above : (k : ℤ) → k <ℤ key y → AllByRecursion (λ z. k <ℤ key z) ys
    above k less = all_weaker _ (λ z. k <ℤ key z) (λ z h. grind (arith, ints)) ys up.0

    go : (o : Ordering) → int_cmp (key y) (key x) ≡ o → (list_any (λ z. int_eq (key z) (key x)) ys ≡ true → update_where (λ z. int_eq (key z) (key x)) f ys ≡ insert_by key ys x)
        → update_where (λ z. int_eq (key z) (key x)) f (y ∷ ys) ≡ insert_by key (y ∷ ys) x
    go Less is more =
        let apart : int_eq (key y) (key x) ≡ false = grind (arith, ints) in
        rw (apart, is) (ap (λ l. y ∷ l) (more (rw apart at some)))
    go Equal is more =
        let same : int_eq (key y) (key x) ≡ true = grind (arith, ints) in
        let rest = apart_above ys (all_weaker _ (λ z. key x <ℤ key z) (λ z h. grind (arith, ints)) ys up.0) in
        rw (same, is) (ap₂ ◌∷◌ (makes y same) rest.0)
    go Greater is more =
        let apart : int_eq (key y) (key x) ≡ false = grind (arith, ints) in
        let none = (apart_above ys (above (key x) (grind (arith, ints)))).1 in
        absurd (let never = rw (apart, none) at some in cc)

-- a list without a value that passes has none to pick
some_passes : {X : Type 0} (p : X → Bool) (xs : List X) → length (filter p xs) ≢ 0 → list_any p xs ≡ true
some_passes p [] some = absurd (some refl)
some_passes {X} p (x ∷ xs) some = go (p x) refl (some_passes p xs)
  where
    go : (b : Bool) → p x ≡ b → (length (filter p xs) ≢ 0 → list_any p xs ≡ true) → list_any p (x ∷ xs) ≡ true
    go true is more = rw is refl
    go false is more = rw is (more (rw is at some))

as_long : {X Y : Type 0} (f : X → Y) (xs : List X) → length (map f xs) ≡ length xs
as_long f [] = refl
as_long f (x ∷ xs) = ap suc (as_long f xs)

all_updated : {X : Type 0} (P : X → Type 0) (p : X → Bool) (f : X → X) → ((x : X) → P x → P (f x)) → (xs : List X) → AllByRecursion P xs → AllByRecursion P (update_where p f xs)
all_updated P p f keeps [] all = tt
all_updated P p f keeps (x ∷ xs) all = (elim (p x) as (λ b. P (cond b (f x) x)) [ true ↦ keeps x all.0 | false ↦ all.0 ], all_updated P p f keeps xs all.1)

-- ---- UPDATE

-- the rowids of the rows WHERE these terms, each with the row that replaces it
abbrev pub update_query : ℕ → List Term → List Term → Query
update_query tree terms news = record {
  from = inner tree end;
  filter = terms;
  group = None;
  project = col 1 0 ∷ news;
  distinct = false;
  collations = [];
  order = [];
  limit = lit (Int (negsuc 0));
  offset = lit (Int (pos 0));
}

module _ {X : Type 0} (IsValid : X → Type 0) (key : X → ℤ) (row : X → Row) (keyed : (x : X) → rowid (row x) ≡ Int (key x)) (db : Trees) (tree : ℕ) (xs : List X) (stored : Stores IsValid key row (db tree) xs) where
  put_each : (rows : List Row) (ys : List X) → put_all rows (map row ys) ≡ fold (λ l y. put_row (row y) l) rows ys
  put_each rows [] = refl
  put_each rows (y ∷ ys) = put_each (put_row (row y) rows) ys

  module _ (table : Table) (terms news : List Term) (params : Row) (p : X → Bool) (f : X → X) (tests : (x : X) → list_all (holds (params ∷ row x ∷ [])) terms ≡ p x)
      (keeps : (x : X) → key (f x) ≡ key x) (sets : (x : X) → eval_all news (params ∷ row x ∷ []) ≡ row (f x)) (casts : (x : X) → cast_row table (row x) ≡ row x) where
    abbrev q : Query
    q = update_query tree terms news

    abbrev env : X → List Row
    env x = params ∷ row x ∷ []

    abbrev made : X → Output
    made x = output q (env x)

    found_are : (found : List Row) → IsAnswer q db params found → (to : List X) × IsPermutation (filter p xs) to × (found ≡ map (λ (x : X). (made x).1) to)
    found_are found answer =
        let staged : answer.staged ≡ map env (filter p xs) = answer.grouped ∙ matches_are q db params (source IsValid key row db tree xs stored) p tests in
        let kept : answer.kept ≡ map made (filter p xs) = answer.distinct ∙ ap (map (output q)) staged ∙ map-map (output q) env (filter p xs) in
        let back = pull_back made answer.kept answer.ordered answer.same (filter p xs) kept in
        (back.0, back.1, answer.shown ∙ ap (map (λ (o : Output). o.1)) back.2 ∙ map-map (λ (o : Output). o.1) made back.0)

    differ : IsAscending (differs key) (map f (filter p xs))
    differ = ascending-map (differs key) f (filter p xs) (ascending-filter (λ a b. differs key (f a) (f b)) p xs
        (ascending_weaker (λ a b. key a <ℤ key b) (λ a b. differs key (f a) (f b)) (λ a b less. (let x = keeps a in let y = keeps b in grind (arith, ints))) xs stored.keyed))

    pub updates_stored : ((x : X) → IsValid x → IsValid (f x)) → (found : List Row) → IsAnswer q db params found
        → Stores IsValid key row (put_all (without_all (db tree) (ids_of found)) (map (λ s. cast_row table (drop 1 s)) found)) (update_where p f xs)
    updates_stored valid found answer =
        let it = found_are found answer in
        let to = it.0 in
        let left = delete_where p xs in
        let ids : ids_of found ≡ map key to = ap ids_of it.2 ∙ map-map (λ (r : Row). id_in (rowid r)) (λ (x : X). (made x).1) to ∙ map_same _ key (λ x. ap id_in (keyed x)) to in
        let new : map (λ s. cast_row table (drop 1 s)) found ≡ map row (map f to) =
        ap (map (λ s. cast_row table (drop 1 s))) it.2 ∙ map-map (λ s. cast_row table (drop 1 s)) (λ (x : X). (made x).1) to ∙ map_same _ (λ x. row (f x)) (λ x. ap (cast_row table) (sets x) ∙ casts (f x)) to
        ∙ sym (map-map row f to) in
        let gone : without_all (db tree) (ids_of found) ≡ map row left =
        ap (λ l. without_all l (ids_of found)) stored.rows_are ∙ ap (without_all (map row xs)) ids ∙ deletes-map key row keyed (map key to) xs
        ∙ ap (map row) (sym (in_any_order IsValid key row keyed (map key (filter p xs)) (map key to) (IsPermutation-map key (filter p xs) to it.1) xs) ∙ removes_delete key p xs stored.keyed) in
        let same = ((puts_in_any_order key (map f (filter p xs)) (map f to) (IsPermutation-map f (filter p xs) to it.1)).1 differ).1 left in
        record {
          rows_are = ap (λ l. put_all l (map (λ s. cast_row table (drop 1 s)) found)) gone ∙ ap (put_all (map row left)) new ∙ put_each (map row left) (map f to)
              ∙ puts-map key row keyed (map f to) left ∙ ap (map row) (sym same ∙ puts_back key p f keeps xs stored.keyed);
          keyed = IsKeyedBy-update_where key p f keeps xs stored.keyed;
          valid = all_updated IsValid p f valid xs stored.valid;
        }

    -- where it found a row, there is one to change
    pub some_updated : (found : List Row) → IsAnswer q db params found → length found ≢ 0 → list_any p xs ≡ true
    some_updated found answer some =
        let it = found_are found answer in
        some_passes p xs (λ none. some (ap length it.2 ∙ as_long (λ (x : X). (made x).1) it.0 ∙ length_permutation _ _ it.1 ∙ none))

-- ---- values that do not contain the rowid

module _ {X : Type 0} (IsValid : X → Type 0) (row : X → Row) (db : Trees) (tree : ℕ) (xs : List X) (h : StoresUnnumbered IsValid row (db tree) xs) where
  values_updated : (p : X → Bool) (f : X → X) (ys : List (ℤ × X)) → map (λ (y : ℤ × X). y.1) (update_where (λ (y : ℤ × X). p y.1) (λ (y : ℤ × X). (y.0, f y.1)) ys) ≡ update_where p f (map (λ (y : ℤ × X). y.1) ys)
  values_updated p f [] = refl
  values_updated p f (y ∷ ys) =
      let new : ℤ × X = (y.0, f y.1) in
      let here : (cond (p y.1) new y).1 ≡ cond (p y.1) (f y.1) y.1 = elim (p y.1) as (λ b. (cond b new y).1 ≡ cond b (f y.1) y.1) [ true ↦ refl | false ↦ refl ] in
      ap (λ z. z ∷ map (λ (w : ℤ × X). w.1) (update_where (λ (w : ℤ × X). p w.1) (λ (w : ℤ × X). (w.0, f w.1)) ys)) here ∙ ap (λ l. cond (p y.1) (f y.1) y.1 ∷ l) (values_updated p f ys)

  pub updates_unnumbered : (table : Table) (terms news : List Term) (params : Row) (p : X → Bool) (f : X → X) → ((id : ℤ) (x : X) → list_all (holds (params ∷ (Int id ∷ row x) ∷ [])) terms ≡ p x)
      → ((id : ℤ) (x : X) → eval_all news (params ∷ (Int id ∷ row x) ∷ []) ≡ Int id ∷ row (f x)) → ((id : ℤ) (x : X) → cast_row table (Int id ∷ row x) ≡ Int id ∷ row x) → ((x : X) → IsValid x → IsValid (f x))
      → (found : List Row) → IsAnswer (update_query tree terms news) db params found
      → StoresUnnumbered IsValid row (put_all (without_all (db tree) (ids_of found)) (map (λ s. cast_row table (drop 1 s)) found)) (update_where p f xs)
  updates_unnumbered table terms news params p f tests sets casts valid found answer = record {
    numbered = update_where (λ (y : ℤ × X). p y.1) (λ (y : ℤ × X). (y.0, f y.1)) h.numbered;
    stores = updates_stored (λ (y : ℤ × X). IsValid y.1) (λ (y : ℤ × X). y.0) (λ (y : ℤ × X). Int y.0 ∷ row y.1) (λ _. refl) db tree h.numbered h.stores table terms news params
        (λ y. p y.1) (λ y. (y.0, f y.1)) (λ y. tests y.0 y.1) (λ _. refl) (λ y. sets y.0 y.1) (λ y. casts y.0 y.1) (λ y. valid y.1) found answer;
    values_are = values_updated p f h.numbered ∙ ap (update_where p f) h.values_are;
  }
