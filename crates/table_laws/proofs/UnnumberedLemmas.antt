-- What each kind of statement does to values that do not contain the rowid.
use Rattle.std.proofs.Common.{◌≡◌, ◌⊎◌, inl, inr, ℕ, ℤ, pos, ◌<ℤ◌, ◌+ℤ◌, Bool, true, false, not, ◌&&◌, ◌||◌, cond, List, [], ◌∷◌, ◌++◌, map, filter, fold, None, refl, sym, ap, subst, ◌∙◌, arith, int_cmp, int_eq, Ordering}
use Rattle.std.specs.List.{AllByRecursion, list_any, list_all}
use Rattle.std.proofs.lemmas.Int.{ints}
use Rattle.std.proofs.lemmas.Bool.{or_cases, or_right, and_parts, and_from}
use Rattle.std.proofs.lemmas.List.{map-append}
use Rattle.sqlite.specs.declared.types.Value.TheVariants.{Int}
use Rattle.sqlite.specs.Order.{Row}
use Rattle.sqlite.specs.Tree.{Trees, rowid, put_row}
use Rattle.sqlite.specs.Table.{Table}
use Rattle.sqlite.specs.Term.{Term, holds, eval_all}
use Rattle.sqlite.specs.Query.{Query, inner, end, output, output_cmp, page, IsAnswer}
use Rattle.sqlite.specs.Edit.{put_all, without_all, id_in, next_rowid}
use Rattle.sqlite_schema.specs.declared.schema.Index.{Index}
use Rattle.sqlite_rules.specs.Calls.{ids_of}
use Rattle.sqlite_schema.specs.Rules.{agree, clashes, differ, equal, guards, passes}
use Rattle.sqlite_schema.specs.declared.schema.Constraint.TheVariants.{Unique}
use Rattle.sqlite_catalog.specs.Listing.{IsSound}
use Rattle.sqlite.specs.Schema.{Schema}
use Rattle.sqlite_value.specs.Keys.{first_key, plain}
use Rattle.sqlite_rules.specs.Keys.{AreConflicts, shares, conflicts}
use Rattle.sqlite_rules.specs.Lists.{Has}
use Rattle.sqlite_rules.proofs.ListLemmas.{all_from, all_has, some_has, some_from}
use Rattle.sqlite_keyed.specs.Lists.{without_key, delete_where}
use Rattle.sqlite_keyed.specs.Keyed.{insert_by, next_key, IsKeyedBy}
use Rattle.sqlite_keyed.proofs.ListLemmas.{all-filter, filter-map, map-map}
use Rattle.sqlite_keyed.proofs.KeyedLemmas.{Less-from_lt, same_int, above_all, IsKeyedBy-insert_by, IsKeyedBy-delete_where}
use Rattle.sqlite_typed.proofs.RowLemmas.{puts-map, deletes-map}
use Rattle.sqlite_typed.proofs.TestLemmas.{at_ints}
use Rattle.sqlite_sql.specs.declared.ops.CompareOp.TheVariants.{Ne}
use Rattle.table_laws.specs.Stored.{StoresWithRowids, StoresUnnumbered}
use Rattle.table_laws.proofs.ReadLemmas.{shows_rows}
use Rattle.table_laws.proofs.NumberedLemmas.{equal_ints}
use Rattle.table_laws.proofs.DeleteLemmas.{ids_query, deletes_stored}

-- ---- lists

same_tests : (a b : Bool) → (a ≡ true → b ≡ true) → (b ≡ true → a ≡ true) → a ≡ b
same_tests true b f g = sym (f refl)
same_tests false true f g = g refl
same_tests false false f g = refl

module _ {X : Type 0} where
  -- a test that all pass keeps all values
  pub kept_all : (xs : List X) → filter (λ _. true) xs ≡ xs
  kept_all [] = refl
  kept_all (x ∷ xs) = ap (λ l. x ∷ l) (kept_all xs)

  without_both : (a b : X → Bool) (xs : List X) → filter (λ x. not (b x)) (filter (λ x. not (a x)) xs) ≡ filter (λ x. not (a x || b x)) xs
  without_both a b [] = refl
  without_both a b (x ∷ xs) = go (a x) (b x) refl (without_both a b xs)
    where
      rest : List X
      rest = filter (λ y. not (a y)) xs

      both : List X
      both = filter (λ y. not (a y || b y)) xs

      go : (c d : Bool) → b x ≡ d → filter (λ y. not (b y)) rest ≡ both → filter (λ y. not (b y)) (cond (not c) (x ∷ rest) rest) ≡ cond (not (c || d)) (x ∷ both) both
      go true d is more = more
      go false true is more = rw is more
      go false false is more = rw is (ap (λ l. x ∷ l) more)

  filter_same_on : (p q : X → Bool) (xs : List X) → AllByRecursion (λ x. p x ≡ q x) xs → filter p xs ≡ filter q xs
  filter_same_on p q [] all = refl
  filter_same_on p q (x ∷ xs) all =
      let more = filter_same_on p q xs all.1 in
      rw all.0 (elim (q x) as (λ b. cond b (x ∷ filter p xs) (filter p xs) ≡ cond b (x ∷ filter q xs) (filter q xs)) [ true ↦ ap (λ l. x ∷ l) more | false ↦ more ])

has_mapped : {X Y : Type 0} (f : X → Y) (xs : List X) (x : X) → Has xs x → Has (map f xs) (f x)
has_mapped f [] x h = absurd h
has_mapped f (y ∷ xs) x (inl same) = inl (ap f same)
has_mapped f (y ∷ xs) x (inr later) = inr (has_mapped f xs x later)

from_mapped : {X Y : Type 0} (f : X → Y) (xs : List X) (z : Y) → Has (map f xs) z → (x : X) × Has xs x × (z ≡ f x)
from_mapped f [] z h = absurd h
from_mapped f (y ∷ xs) z (inl same) = (y, inl refl, same)
from_mapped f (y ∷ xs) z (inr later) = let it = from_mapped f xs z later in (it.0, inr it.1, it.2)

module _ {X : Type 0} (key : X → ℤ) where
  removes_listed : (ids : List ℤ) (xs : List X) → fold (without_key key) xs ids ≡ filter (λ x. not (list_any (λ id. int_eq (key x) id) ids)) xs
  removes_listed [] xs = sym (kept_all xs)
  removes_listed (id ∷ ids) xs = removes_listed ids (without_key key xs id) ∙ without_both (λ x. int_eq (key x) id) (λ x. list_any (λ i. int_eq (key x) i) ids) xs

  -- no two values have the same key
  pub is_unique : (xs : List X) → IsKeyedBy key xs → (x y : X) → Has xs x → Has xs y → key x ≡ key y → x ≡ y
  is_unique [] up x y h k same = absurd h
  is_unique (z ∷ xs) up x y (inl h) (inl k) same = h ∙ sym k
  is_unique (z ∷ xs) up x y (inl h) (inr k) same =
      let below : key z <ℤ key y = all_has (λ w. key z <ℤ key w) xs y up.0 k in
      let e : key x ≡ key z = ap key h in
      absurd (omega (arith, ints))
  is_unique (z ∷ xs) up x y (inr h) (inl k) same =
      let below : key z <ℤ key x = all_has (λ w. key z <ℤ key w) xs x up.0 h in
      let e : key y ≡ key z = ap key k in
      absurd (omega (arith, ints))
  is_unique (z ∷ xs) up x y (inr h) (inr k) same = is_unique xs up.1 x y h k same

  -- a value above all others goes to the end
  pub insert_above : (xs : List X) (new : X) → AllByRecursion (λ x. key x <ℤ key new) xs → insert_by key xs new ≡ xs ++ new ∷ []
  insert_above [] new h = refl
  insert_above (x ∷ xs) new h = rw (Less-from_lt (key x) (key new) h.0, insert_above xs new h.1)

  pub below_next : (xs : List X) → IsKeyedBy key xs → AllByRecursion (λ y. key y <ℤ next_key key xs) xs
  below_next [] up = tt
  below_next (x ∷ xs) up = above_all key xs x up

-- ---- no two rows with one key

pub has_before : {X : Type 0} (xs more : List X) (x : X) → Has xs x → Has (xs ++ more) x
has_before [] more x h = absurd h
has_before (y ∷ xs) more x (inl same) = inl same
has_before (y ∷ xs) more x (inr later) = inr (has_before xs more x later)

pub has_last : {X : Type 0} (xs : List X) (x : X) → Has (xs ++ x ∷ []) x
has_last [] x = inl refl
has_last (y ∷ xs) x = inr (has_last xs x)

ints_differ : (a b : ℤ) → a <ℤ b → differ (Int a) (Int b) ≡ true
ints_differ a b less = at_ints false Ne a b ∙ grind (arith, ints)

unshared : (g c k : Bool) → not (g && c) ≡ true → (k ≡ true → c ≡ true) → (g && true && k) ≡ false
unshared false c k clear hit = refl
unshared true c false clear hit = refl
unshared true false true clear hit = sym (hit refl)
unshared true true true clear hit = sym clear

neither : (a b : Bool) → a ≡ false → b ≡ false → (a || b) ≡ false
neither false b p q = q
neither true b p q = cc

-- a row that clashes with no other shares no key with one of another rowid
shares_none : (table : Table) (rows : List Row) (other row : Row) → Has rows other → differ (rowid other) (rowid row) ≡ true → (indexes : List Index)
    → list_all (λ i. not (guards i table && clashes i.order i.columns rows row)) indexes ≡ true → list_any (shares None table row other) indexes ≡ false
shares_none table rows other row there apart [] clear = refl
shares_none table rows other row there apart (i ∷ more) clear =
    let both = and_parts _ _ clear in
    neither (shares None table row other i) (list_any (shares None table row other) more)
    (unshared (guards i table) (clashes i.order i.columns rows row) (agree i.order i.columns other i.columns row) both.0
    (λ agrees. some_from (λ (o : Row). agree i.order i.columns o i.columns row && differ (rowid o) (rowid row)) rows other there (and_from _ _ agrees apart))) (shares_none table rows other row there apart more both.1)

-- no row of a sound database clashes with another one
pub rows_clear : (schema : Schema) (table : Table) (db : Trees) → Has schema.tables table → IsSound schema db → (rows : List Row) → db table.tree ≡ rows → (r : Row) → Has rows r
    → list_all (λ i. not (guards i table && clashes i.order i.columns rows r)) schema.indexes ≡ true
rows_clear schema table db listed sound rows is r there =
    let all = all_has (λ t. AllByRecursion (λ row. passes Unique schema db t row ≡ true) (db t.tree)) schema.tables table (sound.obeys.rules Unique) listed in
    let each = all_has (λ row. passes Unique schema db table row ≡ true) (db table.tree) r all (subst (λ l. Has l r) (sym is) there) in
    subst (λ l. list_all (λ i. not (guards i table && clashes i.order i.columns l r)) schema.indexes ≡ true) is each

-- ---- INSERT OR REPLACE

module _ {X : Type 0} (IsValid : X → Type 0) (row : X → Row) where
  -- the row of a value with its rowid in front
  abbrev pub numbered_row : ℤ × X → Row
  numbered_row p = Int p.0 ∷ row p.1

  pub next_is : (start : ℤ) (xs : List (ℤ × X)) → fold (λ (_ : ℤ) (r : Row). id_in (rowid r) +ℤ pos 1) start (map numbered_row xs) ≡ fold (λ (_ : ℤ) (p : ℤ × X). p.0 +ℤ pos 1) start xs
  next_is start [] = refl
  next_is start (x ∷ xs) = next_is (x.0 +ℤ pos 1) xs

  pub all_added : (xs : List (ℤ × X)) (x : ℤ × X) → AllByRecursion (λ (p : ℤ × X). IsValid p.1) xs → IsValid x.1 → AllByRecursion (λ (p : ℤ × X). IsValid p.1) (xs ++ x ∷ [])
  all_added [] x all valid = (valid, tt)
  all_added (y ∷ ys) x all valid = (all.0, all_added ys x all.1 valid)

module _ {X : Type 0} (IsValid : X → Type 0) (row : X → Row) (indexes : List Index) (table : Table) (same : X → X → Bool)
    (shared : (new old : ℤ × X) → list_any (shares None table (numbered_row IsValid row new) (numbered_row IsValid row old)) indexes ≡ same old.1 new.1) where
  abbrev place : ℤ × X → ℤ
  place p = p.0

  abbrev as_row : ℤ × X → Row
  as_row = numbered_row IsValid row

  -- a new rowid is on no row, so a conflict is on the key
  by_index : (new old : ℤ × X) → old.0 <ℤ new.0 → conflicts None indexes table (as_row new) (as_row old) ≡ true → list_any (shares None table (as_row new) (as_row old)) indexes ≡ true
  by_index new old under hits = go (or_cases _ _ hits)
    where
      by_rowid : Bool
      by_rowid = equal (first_key plain).collation (Int old.0) (Int new.0) && true

      go : (by_rowid ≡ true) ⊎ (list_any (shares None table (as_row new) (as_row old)) indexes ≡ true) → list_any (shares None table (as_row new) (as_row old)) indexes ≡ true
      go (inl here) = let level : old.0 ≡ new.0 = same_int old.0 new.0 (sym (equal_ints old.0 new.0) ∙ (and_parts _ _ here).0) in absurd (omega (arith, ints))
      go (inr here) = here

  -- the rows removed are exactly those with the key
  takes : (all : List (ℤ × X)) (new : ℤ × X) (found : List Row) → IsKeyedBy place all → AllByRecursion (λ (y : ℤ × X). y.0 <ℤ new.0) all
      → AreConflicts None indexes table (map as_row all) (as_row new) found
      → fold (without_key place) all (ids_of found) ≡ delete_where (λ (p : ℤ × X). same p.1 new.1) all
  takes all new found up below is =
      removes_listed place (ids_of found) all ∙ filter_same_on (λ (y : ℤ × X). not (list_any (λ id. int_eq y.0 id) (ids_of found))) (λ (y : ℤ × X). not (same y.1 new.1)) all
      (all_from (λ (y : ℤ × X). not (list_any (λ id. int_eq y.0 id) (ids_of found)) ≡ not (same y.1 new.1)) all (λ y there. ap not (same_tests (list_any (λ id. int_eq y.0 id) (ids_of found)) (same y.1 new.1) (gone y there) (left y there))))
    where
      left : (y : ℤ × X) → Has all y → same y.1 new.1 ≡ true → list_any (λ id. int_eq y.0 id) (ids_of found) ≡ true
      left y there h =
          let one = is.complete (as_row y) (has_mapped as_row all y there) (or_right _ _ (shared new y ∙ h)) in
          some_from (λ id. int_eq y.0 id) (ids_of found) y.0 (has_mapped (λ (r : Row). id_in (rowid r)) found (rowid (as_row y) ∷ []) one) (grind (arith, ints))

      gone : (y : ℤ × X) → Has all y → list_any (λ id. int_eq y.0 id) (ids_of found) ≡ true → same y.1 new.1 ≡ true
      gone y there h =
          let it = some_has (λ id. int_eq y.0 id) (ids_of found) h in
          let r = from_mapped (λ (r : Row). id_in (rowid r)) found it.0 it.1 in
          let s = is.sound r.0 r.1 in
          let z = from_mapped as_row all s.0 s.1 in
          let e : y.0 ≡ z.0.0 = same_int y.0 it.0 it.2 ∙ r.2 ∙ ap (λ (q : Row). id_in (rowid q)) s.3 ∙ ap (λ (q : Row). id_in (rowid q)) z.2 in
          let one : y ≡ z.0 = is_unique place all up y z.0 there z.1 e in
          let hits : conflicts None indexes table (as_row new) (as_row z.0) ≡ true = subst (λ q. conflicts None indexes table (as_row new) q ≡ true) z.2 s.2 in
          let under : z.0.0 <ℤ new.0 = all_has (λ (w : ℤ × X). w.0 <ℤ new.0) all z.0 below z.1 in
          ap (λ (w : ℤ × X). same w.1 new.1) one ∙ sym (shared new z.0) ∙ by_index new z.0 under hits

  -- INSERT OR REPLACE removes the row with the key, and appends its own with the next rowid
  pub replaces_with_rowids : (rows : List Row) (all : List (ℤ × X)) (x : X) (found : List Row) → StoresWithRowids IsValid row rows all → IsValid x
      → AreConflicts None indexes table rows (Int (next_rowid rows) ∷ row x) found
      → StoresWithRowids IsValid row (put_all (without_all rows (ids_of found)) ((Int (next_rowid rows) ∷ row x) ∷ [])) (delete_where (λ (p : ℤ × X). same p.1 x) all ++ (next_key place all, x) ∷ [])
  replaces_with_rowids rows all x found h valid is =
      let new : ℤ × X = (next_rowid rows, x) in
      let next : next_rowid rows ≡ next_key place all = ap next_rowid h.rows_are ∙ next_is IsValid row (pos 1) all in
      let below = subst (λ k. AllByRecursion (λ (y : ℤ × X). y.0 <ℤ k) all) (sym next) (below_next place all h.keyed) in
      let left = delete_where (λ (p : ℤ × X). same p.1 x) all in
      let gone : fold (without_key place) all (ids_of found) ≡ left = takes all new found h.keyed below (subst (λ l. AreConflicts None indexes table l (as_row new) found) h.rows_are is) in
      let placed : insert_by place left new ≡ left ++ new ∷ [] = insert_above place left new (all-filter _ _ all below) in
      let after = put_all (without_all rows (ids_of found)) (as_row new ∷ []) in
      let stored : StoresWithRowids IsValid row after (left ++ new ∷ []) = record {
        rows_are = ap (λ l. put_all (without_all l (ids_of found)) (as_row new ∷ [])) h.rows_are
            ∙ ap (λ l. put_row (as_row new) l) (deletes-map place as_row (λ _. refl) (ids_of found) all ∙ ap (map as_row) gone)
            ∙ puts-map place as_row (λ _. refl) (new ∷ []) left ∙ ap (map as_row) placed;
        keyed = subst (IsKeyedBy place) placed (IsKeyedBy-insert_by place left new (IsKeyedBy-delete_where place (λ (p : ℤ × X). same p.1 x) all h.keyed));
        valid = all_added IsValid row left new (all-filter _ _ all h.valid) valid;
      } in
      subst (λ k. StoresWithRowids IsValid row after (left ++ (k, x) ∷ [])) next stored

  -- INSERT leaves no two rows with one key: none had that of the row which it appended
  pub inserts_with_rowids : (rows : List Row) (all : List (ℤ × X)) (x : X) → StoresWithRowids IsValid row rows all → IsValid x
      → ((r : Row) → Has (put_all rows ((Int (next_rowid rows) ∷ row x) ∷ [])) r → list_all (λ i. not (guards i table && clashes i.order i.columns (put_all rows ((Int (next_rowid rows) ∷ row x) ∷ [])) r)) indexes ≡ true)
      → StoresWithRowids IsValid row (put_all rows ((Int (next_rowid rows) ∷ row x) ∷ [])) (delete_where (λ (p : ℤ × X). same p.1 x) all ++ (next_key place all, x) ∷ [])
  inserts_with_rowids rows all x h valid unique = replaces_with_rowids rows all x [] h valid (record { sound = λ r none. absurd none; complete = λ r there hits. absurd (apart r there hits) })
    where
      new : ℤ × X
      new = (next_rowid rows, x)

      after : List Row
      after = put_all rows (as_row new ∷ [])

      below : AllByRecursion (λ (y : ℤ × X). y.0 <ℤ new.0) all
      below = subst (λ k. AllByRecursion (λ (y : ℤ × X). y.0 <ℤ k) all) (sym (ap next_rowid h.rows_are ∙ next_is IsValid row (pos 1) all)) (below_next place all h.keyed)

      placed : after ≡ map as_row (all ++ new ∷ [])
      placed = ap (λ l. put_row (as_row new) l) h.rows_are ∙ puts-map place as_row (λ _. refl) (new ∷ []) all ∙ ap (map as_row) (insert_above place all new below)

      apart : (r : Row) → Has rows r → ¬ (conflicts None indexes table (as_row new) r ≡ true)
      apart r there hits =
          let z = from_mapped as_row all r (subst (λ l. Has l r) h.rows_are there) in
          let under : z.0.0 <ℤ new.0 = all_has (λ (w : ℤ × X). w.0 <ℤ new.0) all z.0 below z.1 in
          let met = by_index new z.0 under (subst (λ q. conflicts None indexes table (as_row new) q ≡ true) z.2 hits) in
          let other : Has after (as_row z.0) = subst (λ l. Has l (as_row z.0)) (sym placed) (has_mapped as_row (all ++ new ∷ []) z.0 (has_before all (new ∷ []) z.0 z.1)) in
          let own : Has after (as_row new) = subst (λ l. Has l (as_row new)) (sym placed) (has_mapped as_row (all ++ new ∷ []) new (has_last all new)) in
          let free = shares_none table after (as_row z.0) (as_row new) other (ints_differ z.0.0 new.0 under) indexes (unique (as_row new) own) in
          let never : true ≡ false = sym met ∙ free in
          cc

-- the values after it, whatever the rowids
pub values_after : {X : Type 0} (p : X → Bool) (all : List (ℤ × X)) (rank : ℤ) (x : X) → map (λ (y : ℤ × X). y.1) (delete_where (λ (y : ℤ × X). p y.1) all ++ (rank, x) ∷ []) ≡ delete_where p (map (λ (y : ℤ × X). y.1) all) ++ x ∷ []
values_after {X} p all rank x =
    map-append (λ (y : ℤ × X). y.1) (delete_where (λ (y : ℤ × X). p y.1) all) ((rank, x) ∷ []) ∙ ap (λ l. l ++ x ∷ []) (sym (filter-map (λ y. not (p y)) (λ (y : ℤ × X). y.1) all))

-- the same without the rowids
pub unnumbered_after : {X : Type 0} (IsValid : X → Type 0) (row : X → Row) (p : X → Bool) (rows : List Row) (all : List (ℤ × X)) (rank : ℤ) (x : X) (xs : List X) → map (λ (y : ℤ × X). y.1) all ≡ xs
    → StoresWithRowids IsValid row rows (delete_where (λ (y : ℤ × X). p y.1) all ++ (rank, x) ∷ []) → StoresUnnumbered IsValid row rows (delete_where p xs ++ x ∷ [])
unnumbered_after {X} IsValid row p rows all rank x xs are stored = record {
  numbered = delete_where (λ (y : ℤ × X). p y.1) all ++ (rank, x) ∷ [];
  stores = stored;
  values_are = values_after p all rank x ∙ ap (λ l. delete_where p l ++ x ∷ []) are;
}

-- without the rowids
pub without_rowids : {X : Type 0} (IsValid : X → Type 0) (row : X → Row) (rows : List Row) (all : List (ℤ × X)) → StoresWithRowids IsValid row rows all → StoresUnnumbered IsValid row rows (map (λ (p : ℤ × X). p.1) all)
without_rowids IsValid row rows all stored = record { numbered = all; stores = stored; values_are = refl }

-- ---- DELETE and SELECT

module _ {X : Type 0} (IsValid : X → Type 0) (row : X → Row) (db : Trees) (tree : ℕ) (xs : List X) (h : StoresUnnumbered IsValid row (db tree) xs) where
  abbrev pairs_valid : ℤ × X → Type 0
  pairs_valid p = IsValid p.1

  abbrev rank : ℤ × X → ℤ
  rank p = p.0

  abbrev value : ℤ × X → X
  value p = p.1

  abbrev shown_row : ℤ × X → Row
  shown_row p = Int p.0 ∷ row p.1

  pub deletes_unnumbered : (terms : List Term) (params : Row) (p : X → Bool) → ((id : ℤ) (x : X) → list_all (holds (params ∷ (Int id ∷ row x) ∷ [])) terms ≡ p x)
      → (found : List Row) → IsAnswer (ids_query tree terms) db params found → StoresUnnumbered IsValid row (without_all (db tree) (ids_of found)) (delete_where p xs)
  deletes_unnumbered terms params p tests found answer = record {
    numbered = delete_where (λ (y : ℤ × X). p y.1) h.numbered;
    stores = deletes_stored pairs_valid rank shown_row (λ _. refl) db tree h.numbered h.stores terms params (λ y. p y.1) (λ y. tests y.0 y.1) found answer;
    values_are = sym (filter-map (λ y. not (p y)) value h.numbered) ∙ ap (delete_where p) h.values_are;
  }

  module _ (q : Query) (params : Row) (p : X → Bool) (show : X → Row)
      (tests : (id : ℤ) (x : X) → list_all (holds (params ∷ (Int id ∷ row x) ∷ [])) q.filter ≡ p x)
      (shows : (id : ℤ) (x : X) → eval_all q.project (params ∷ (Int id ∷ row x) ∷ []) ≡ show x) where
    abbrev one_table : Query → Query
    one_table query = record query { from = inner tree end; group = None; distinct = false }

    abbrev tied : ℤ × X → ℤ × X → Ordering
    tied a b = output_cmp q (output q (params ∷ shown_row a ∷ [])) (output q (params ∷ shown_row b ∷ []))

    as_values : (l : List (ℤ × X)) → map (λ (y : ℤ × X). show y.1) l ≡ map show (map value l)
    as_values l = sym (map-map show value l)

    picked : map value (filter (λ (y : ℤ × X). p y.1) h.numbered) ≡ filter p xs
    picked = sym (filter-map p value h.numbered) ∙ ap (filter p) h.values_are

    -- ORDER BY rowid is the order of insertion
    pub shows_unnumbered : ((a b : ℤ × X) → tied a b ≡ int_cmp a.0 b.0) → (rows : List Row) → IsAnswer (one_table q) db params rows
        → rows ≡ page q params (map show (filter p xs))
    shows_unnumbered order rows answer =
        shows_rows pairs_valid rank shown_row db tree h.numbered h.stores q params (λ y. p y.1) (λ y. show y.1) (λ y. tests y.0 y.1) (λ y. shows y.0 y.1) order rows answer
        ∙ ap (page q params) (as_values _ ∙ ap (map show) picked)
