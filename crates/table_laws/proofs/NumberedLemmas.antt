-- What INSERT and INSERT OR REPLACE do to the values of a table whose key is its rowid.
use Rattle.std.proofs.Common.{◌≡◌, inl, inr, ℤ, Bool, true, false, ◌&&◌, ◌||◌, List, [], ◌∷◌, map, fold, None, refl, sym, ap, ap₂, subst, ◌∙◌, int_eq}
use Rattle.std.specs.List.{AllByRecursion, list_any}
use Rattle.sqlite.specs.declared.types.Value.TheVariants.{Int}
use Rattle.sqlite.specs.Order.{Row}
use Rattle.sqlite.specs.Tree.{rowid, put_row}
use Rattle.sqlite.specs.Table.{Table}
use Rattle.sqlite.specs.Edit.{put_all, without_all, id_in}
use Rattle.sqlite_sql.specs.declared.ops.CompareOp.TheVariants.{Eq}
use Rattle.sqlite_schema.specs.declared.schema.Index.{Index}
use Rattle.sqlite_schema.specs.Rules.{equal}
use Rattle.sqlite_rules.specs.Calls.{ids_of}
use Rattle.sqlite_rules.specs.Keys.{AreConflicts, shares}
use Rattle.sqlite_rules.specs.Lists.{Has}
use Rattle.sqlite_rules.proofs.ListLemmas.{all_from}
use Rattle.sqlite_value.specs.declared.keys.Key.{Key}
use Rattle.sqlite_value.specs.Keys.{first_key, plain}
use Rattle.sqlite_value.proofs.KeyLemmas.{first_key-plain}
use Rattle.sqlite_keyed.specs.Lists.{without_key}
use Rattle.sqlite_keyed.specs.Keyed.{insert_by}
use Rattle.sqlite_keyed.proofs.KeyedLemmas.{same_int, all-insert_by, IsKeyedBy-insert_by}
use Rattle.sqlite_typed.proofs.RowLemmas.{puts-map, deletes-map}
use Rattle.sqlite_typed.proofs.TestLemmas.{at_ints}
use Rattle.table_laws.specs.Stored.{Stores}
use Rattle.table_laws.proofs.KeyedLemmas.{insert_by_without_keys}

-- an index compares integers by their values
pub equal_ints : (a b : ℤ) → equal (first_key plain).collation (Int a) (Int b) ≡ int_eq a b
equal_ints a b = ap (λ (k : Key). equal k.collation (Int a) (Int b)) first_key-plain ∙ at_ints false Eq a b

module _ {X : Type 0} (IsValid : X → Type 0) (key : X → ℤ) (row : X → Row) (keyed : (x : X) → rowid (row x) ≡ Int (key x)) where
  from_values : (xs : List X) (r : Row) → Has (map row xs) r → (x : X) × (r ≡ row x)
  from_values [] r h = absurd h
  from_values (x ∷ xs) r (inl h) = (x, h)
  from_values (x ∷ xs) r (inr h) = from_values xs r h

  first_of_two : (a b : Bool) → ((a && true) || b) ≡ true → b ≡ false → a ≡ true
  first_of_two true b h none = refl
  first_of_two false true h none = cc
  first_of_two false false h none = cc

  ids_from : (k : ℤ) (found : List Row) → AllByRecursion (λ r. id_in (rowid r) ≡ k) found → AllByRecursion (λ id. id ≡ k) (ids_of found)
  ids_from k [] all = tt
  ids_from k (r ∷ rs) all = (all.0, ids_from k rs all.1)

  -- without a unique index, each conflict is with the row that has the key
  conflict_ids : (indexes : List Index) (table : Table) (xs : List X) (x : X) (found : List Row) → ((new old : Row) → list_any (shares None table new old) indexes ≡ false)
      → AreConflicts None indexes table (map row xs) (row x) found → AllByRecursion (λ id. id ≡ key x) (ids_of found)
  conflict_ids indexes table xs x found free is =
      ids_from (key x) found (all_from (λ r. id_in (rowid r) ≡ key x) found (λ r there.
      let h = is.sound r there in
      let y = from_values xs h.0 h.1 in
      let own : rowid h.0 ≡ Int (key y.0) = ap rowid y.1 ∙ keyed y.0 in
      let tied = first_of_two (equal (first_key plain).collation (rowid h.0) (rowid (row x))) _ h.2 (free (row x) h.0) in
      let same : int_eq (key y.0) (key x) ≡ true = sym (equal_ints (key y.0) (key x)) ∙ sym (ap₂ (equal (first_key plain).collation) own (keyed x)) ∙ tied in
      ap (λ q. id_in (rowid q)) h.3 ∙ ap id_in own ∙ same_int _ _ same))

  -- the value replaces the one with its key, or goes between its neighbours
  pub replaces_numbered : (indexes : List Index) (table : Table) (rows : List Row) (xs : List X) (x : X) (found : List Row) → ((new old : Row) → list_any (shares None table new old) indexes ≡ false)
      → Stores IsValid key row rows xs → IsValid x → AreConflicts None indexes table rows (row x) found
      → Stores IsValid key row (put_all (without_all rows (ids_of found)) (row x ∷ [])) (insert_by key xs x)
  replaces_numbered indexes table rows xs x found free h valid is =
      let ids = conflict_ids indexes table xs x found free (subst (λ all. AreConflicts None indexes table all (row x) found) h.rows_are is) in
      record {
        rows_are = ap (λ all. put_all (without_all all (ids_of found)) (row x ∷ [])) h.rows_are ∙ ap (λ all. put_row (row x) all) (deletes-map key row keyed (ids_of found) xs)
            ∙ puts-map key row keyed (x ∷ []) (fold (without_key key) xs (ids_of found)) ∙ ap (map row) (insert_by_without_keys key (ids_of found) xs x ids h.keyed);
        keyed = IsKeyedBy-insert_by key xs x h.keyed;
        valid = all-insert_by key IsValid xs x valid h.valid;
      }

  -- INSERT puts the value between its neighbours
  pub inserts_numbered : (rows : List Row) (xs : List X) (x : X) → Stores IsValid key row rows xs → IsValid x → Stores IsValid key row (put_all rows (row x ∷ [])) (insert_by key xs x)
  inserts_numbered rows xs x h valid = record {
    rows_are = ap (λ all. put_row (row x) all) h.rows_are ∙ puts-map key row keyed (x ∷ []) xs;
    keyed = IsKeyedBy-insert_by key xs x h.keyed;
    valid = all-insert_by key IsValid xs x valid h.valid;
  }
