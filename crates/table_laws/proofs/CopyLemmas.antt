-- What INSERT of a query's rows does to the values of a table.
use Rattle.std.proofs.Common.{◌≡◌, ℤ, pos, ◌<ℤ◌, append-nil, append_assoc, List, [], ◌∷◌, ◌++◌, map, fold, refl, sym, ap, subst, ◌∙◌}
use Rattle.std.specs.List.{AllByRecursion}
use Rattle.std.proofs.lemmas.List.{map-append}
use Rattle.sqlite.specs.declared.types.Value.TheVariants.{Null, Int}
use Rattle.sqlite.specs.Order.{Row}
use Rattle.sqlite.specs.Tree.{rowid, put_row}
use Rattle.sqlite.specs.Edit.{numbered, put_all, next_rowid, with_rowid}
use Rattle.sqlite.specs.Rowids.TheVariants.{Chosen}
use Rattle.sqlite_keyed.specs.Keyed.{IsKeyedBy, insert_by, next_key}
use Rattle.sqlite_keyed.proofs.KeyedLemmas.{Less-from_lt, IsKeyedBy-insert_by}
use Rattle.sqlite_typed.proofs.RowLemmas.{puts-map}
use Rattle.table_laws.specs.Stored.{StoresUnnumbered}
use Rattle.table_laws.proofs.UnnumberedLemmas.{insert_above, below_next, numbered_row, next_is, all_added}

-- ---- values that do not contain the rowid

module _ {X : Type 0} (IsValid : X → Type 0) (row : X → Row) where
  abbrev place : ℤ × X → ℤ
  place p = p.0

  abbrev as_row : ℤ × X → Row
  as_row = numbered_row IsValid row

  abbrev without_rowid : X → Row
  without_rowid x = Null ∷ row x

  -- the values are appended, each with the next rowid
  pub appends : (news : List X) (rows : List Row) (xs : List X) → StoresUnnumbered IsValid row rows xs → AllByRecursion IsValid news
      → StoresUnnumbered IsValid row (put_all rows (numbered Chosen rows (map without_rowid news))) (xs ++ news)
  appends [] rows xs h valid = subst (StoresUnnumbered IsValid row rows) (sym (append-nil xs)) h
  appends (n ∷ news) rows xs h valid =
      let all = h.numbered in
      let id = next_rowid rows in
      let new : ℤ × X = (id, n) in
      let next : id ≡ next_key place all = ap next_rowid h.stores.rows_are ∙ next_is IsValid row (pos 1) all in
      let below = subst (λ k. AllByRecursion (λ (y : ℤ × X). y.0 <ℤ k) all) (sym next) (below_next place all h.stores.keyed) in
      let placed : insert_by place all new ≡ all ++ new ∷ [] = insert_above place all new below in
      let mid : StoresUnnumbered IsValid row (put_row (as_row new) rows) (xs ++ n ∷ []) = record {
        numbered = all ++ new ∷ [];
        stores = record {
          rows_are = ap (λ l. put_row (as_row new) l) h.stores.rows_are ∙ puts-map place as_row (λ _. refl) (new ∷ []) all ∙ ap (map as_row) placed;
          keyed = subst (IsKeyedBy place) placed (IsKeyedBy-insert_by place all new h.stores.keyed);
          valid = all_added IsValid row all new h.stores.valid valid.0;
        };
        values_are = map-append (λ (p : ℤ × X). p.1) all (new ∷ []) ∙ ap (λ l. l ++ n ∷ []) h.values_are;
      } in
      subst (StoresUnnumbered IsValid row _) (append_assoc xs (n ∷ []) news) (appends news (put_row (as_row new) rows) (xs ++ n ∷ []) mid valid.1)

-- ---- values whose key is the rowid

module _ {X : Type 0} (key : X → ℤ) (row : X → Row) (keyed : (x : X) → rowid (row x) ≡ Int (key x)) where
  all_above : (x : X) (xs : List X) → AllByRecursion (λ y. key x <ℤ key y) xs → fold (insert_by key) (x ∷ []) xs ≡ x ∷ fold (insert_by key) [] xs
  all_above x xs above = go [] xs above
    where
      go : (had news : List X) → AllByRecursion (λ y. key x <ℤ key y) news → fold (insert_by key) (x ∷ had) news ≡ x ∷ fold (insert_by key) had news
      go had [] above = refl
      go had (n ∷ news) above = rw (Less-from_lt (key x) (key n) above.0) (go (insert_by key had n) news above.1)

  pub in_order : (xs : List X) → IsKeyedBy key xs → fold (insert_by key) [] xs ≡ xs
  in_order [] up = refl
  in_order (x ∷ xs) up = all_above x xs up.0 ∙ ap (λ l. x ∷ l) (in_order xs up.1)

  -- a row that has a rowid keeps it
  given : (xs : List X) (rows : List Row) → numbered Chosen rows (map row xs) ≡ map row xs
  given [] rows = refl
  given (x ∷ xs) rows =
      let one : with_rowid Chosen rows (row x) ≡ row x = rw (keyed x) refl in
      rw one (ap (λ l. row x ∷ l) (given xs (put_row (row x) rows)))

  fold_map : (xs : List X) (rows : List Row) → put_all rows (map row xs) ≡ fold (λ l x. put_row (row x) l) rows xs
  fold_map [] rows = refl
  fold_map (x ∷ xs) rows = fold_map xs (put_row (row x) rows)

  -- values in the order of their keys fill an empty table
  pub fills : (xs : List X) → IsKeyedBy key xs → put_all [] (numbered Chosen [] (map row xs)) ≡ map row xs
  fills xs up = ap (put_all []) (given xs []) ∙ fold_map xs [] ∙ puts-map key row keyed xs [] ∙ ap (map row) (in_order xs up)
