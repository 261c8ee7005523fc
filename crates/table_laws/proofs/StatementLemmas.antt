-- From the text of a statement to what it does to the values of its table.
use Rattle.std.proofs.Common.{◌≡◌, ◌≢◌, ℕ, ℤ, ◌/◌, length, pos, negsuc, int_eq, Bool, true, false, List, [], ◌∷◌, ◌++◌, map, drop, slice_get, Some, None, Ok, sym, ap, subst, ◌∙◌}
use Rattle.std.specs.List.{list_any, list_all}
use Rattle.sqlite.specs.declared.types.Value.TheVariants.{Null, Int}
use Rattle.sqlite.specs.Order.{Row}
use Rattle.sqlite.specs.Tree.{Trees, rowid}
use Rattle.sqlite.specs.Term.{Term, lit, holds, eval_all}
use Rattle.sqlite.specs.Schema.{Schema}
use Rattle.sqlite.specs.Table.{Table}
use Rattle.sqlite.specs.Source.TheVariants.{Values}
use Rattle.sqlite.specs.Command.TheVariants.{Insert, InsertOr, Update, Select, Delete}
use Rattle.sqlite.specs.Query.{Query, inner, end, IsAnswer}
use Rattle.sqlite.specs.Program.{overlay}
use Rattle.sqlite.specs.Cast.{cast_row}
use Rattle.sqlite.specs.Edit.{with_rowid, put_all, without_all, next_rowid}
use Rattle.sqlite.specs.Rowids.TheVariants.{Chosen}
use Rattle.sqlite.specs.Rows.{mended}
use Rattle.sqlite.specs.Effect.{value_rows}
use Rattle.sqlite.specs.Listing.{understood, reads_listing}
use Rattle.sqlite.specs.State.{State, Executes, Shown, IsUnchanged}
use Rattle.sqlite.proofs.Callers.{IsPlain, command_of, runs_as, reads_as}
use Rattle.sqlite_schema.specs.declared.command.Conflict.TheVariants.{Replace}
use Rattle.sqlite_schema.specs.declared.schema.Column.{Column}
use Rattle.sqlite_rules.specs.Calls.{ids_of}
use Rattle.sqlite_rules.specs.Keys.{AreConflicts, shares}
use Rattle.sqlite_rules.proofs.ListLemmas.{has_got}
use Rattle.sqlite_value.specs.declared.keys.Key.{Key}
use Rattle.sqlite_keyed.specs.Lists.{update_where, delete_where}
use Rattle.sqlite_keyed.specs.Keyed.{insert_by, next_key}
use Rattle.table_laws.specs.Shape.{numbered_table, keyed_table}
use Rattle.table_laws.specs.Stored.{Stores, StoresWithRowids, StoresUnnumbered}
use Rattle.table_laws.proofs.SetLemmas.{IsUntied, Sets}
use Rattle.table_laws.proofs.WriteLemmas.{replaces, inserts_one, updates, deletes}
use Rattle.table_laws.proofs.NumberedLemmas.{replaces_numbered, inserts_numbered}
use Rattle.table_laws.proofs.UnnumberedLemmas.{numbered_row, replaces_with_rowids, inserts_with_rowids, rows_clear, unnumbered_after, deletes_unnumbered}
use Rattle.table_laws.proofs.DeleteLemmas.{ids_query}
use Rattle.table_laws.proofs.UpdateLemmas.{update_query, changed_is_inserted, some_updated, updates_stored, updates_unnumbered}
use Rattle.table_laws.proofs.InsideLemmas.{query_keeps}

-- under the schema the text is a single INSERT OR REPLACE of these terms into the table at this place
pub record IsPut (schema : Schema) (at : ℕ) (sql : List ℕ) (terms : List Term) (width : ℕ) : Type 0 where
  pub is : command_of (understood schema sql) ≡ InsertOr at Replace (Values terms width) []
  pub plain : IsPlain (understood schema sql)

-- under the schema the text is a single INSERT of these terms into the table at this place
pub record IsInsert (schema : Schema) (at : ℕ) (sql : List ℕ) (terms : List Term) (width : ℕ) : Type 0 where
  pub is : command_of (understood schema sql) ≡ Insert at (Values terms width)
  pub plain : IsPlain (understood schema sql)

-- under the schema the text is a single UPDATE of the table at this place, of the rows WHERE `terms`, to `news`
pub record IsUpdate (schema : Schema) (at tree : ℕ) (sql : List ℕ) (terms news : List Term) : Type 0 where
  pub is : command_of (understood schema sql) ≡ Update at (record { lets = []; body = update_query tree terms news })
  pub plain : IsPlain (understood schema sql)

-- under the schema the text is a single DELETE from the table at this place WHERE these terms
pub record IsDelete (schema : Schema) (at tree : ℕ) (sql : List ℕ) (terms : List Term) : Type 0 where
  pub is : command_of (understood schema sql) ≡ Delete at (record { lets = []; body = ids_query tree terms })
  pub plain : IsPlain (understood schema sql)

-- under the schema the text is this query
pub record IsSelect (schema : Schema) (sql : List ℕ) (q : Query) (names : List (List ℕ)) : Type 0 where
  pub is : command_of (understood schema sql) ≡ Select (record { lets = []; body = q }) names
  pub plain : IsPlain (understood schema sql)
  pub own : reads_listing schema sql ≡ false

-- SELECT columns FROM a table WHERE terms ORDER BY keys LIMIT limit
abbrev pub table_query : ℕ → List Term → List Term → List (Term × Key) → ℤ → Query
table_query tree terms columns order limit = record {
  from = inner tree end;
  filter = terms;
  group = None;
  project = columns;
  distinct = false;
  collations = [];
  order = order;
  limit = lit (Int limit);
  offset = lit (Int (pos 0));
}

-- no LIMIT
abbrev pub no_limit : ℤ
no_limit = negsuc 0

-- a query changes nothing and shows its result
pub answers : (schema : Schema) (sql : List ℕ) (q : Query) (names : List (List ℕ)) → IsSelect schema sql q names → (params : Row) (old new : State) → old.now.schema ≡ schema → (rows : List Row)
    → Shown sql params old new rows → IsUnchanged old new × IsAnswer q (overlay old.now.trees []) params rows
answers schema sql q names text params old new has rows h = (
  query_keeps old new sql params rows (subst (λ s. IsPlain (understood s sql)) (sym has) text.plain) h,
  (reads_as sql params old new schema has _ text.is text.plain text.own rows h).answer Null,
)

module _ (schema : Schema) (untied : IsUntied schema) (at tree : ℕ) (name : List ℕ) (columns : List Column) {X : Type 0} (IsValid : X → Type 0) where
  -- a table whose key is its rowid
  module _ (is : slice_get schema.tables at ≡ Some (numbered_table tree name columns)) (key : X → ℤ) (row : X → Row) (keyed : (x : X) → rowid (row x) ≡ Int (key x)) where
    abbrev numbered : Table
    numbered = numbered_table tree name columns

    pub puts_numbered : (sql : List ℕ) (terms : List Term) (width : ℕ) → IsPut schema at sql terms width
        → ((new old : Row) → list_any (shares None numbered new old) schema.indexes ≡ false)
        → (params : Row) (x : X) → value_rows params width (length terms / width) terms ≡ row x ∷ []
        → ((rows : List Row) → with_rowid Chosen rows (cast_row numbered (mended Replace numbered (row x))) ≡ row x) → cast_row numbered (row x) ≡ row x
        → (old new : State) → old.now.schema ≡ schema → (xs : List X) → Stores IsValid key row (old.now.trees tree) xs → IsValid x → (count : ℕ) → Executes sql params old new (Ok count)
        → (rows : List Row) × Sets schema tree old.now new.now rows × Stores IsValid key row rows (insert_by key xs x)
    puts_numbered sql terms width text free params x given made cast old new has xs stored valid count h =
        let w = runs_as sql params old new schema has _ text.is text.plain count h in
        let rows = old.now.trees tree in
        let done = replaces schema untied at tree name columns (Some 0) (0 ∷ []) [] is old new has _ params count terms width (row x) given w in
        let one = made rows in
        let after = put_all (without_all rows (ids_of done.0)) (cast_row numbered (with_rowid Chosen rows (cast_row numbered (mended Replace numbered (row x)))) ∷ []) in
        let now = replaces_numbered IsValid key row keyed schema.indexes numbered rows xs x done.0 free stored valid (subst (λ r. AreConflicts None schema.indexes numbered rows r done.0) one done.1) in
        (after, done.2, subst (λ r. Stores IsValid key row (put_all (without_all rows (ids_of done.0)) (r ∷ [])) (insert_by key xs x)) (sym (ap (cast_row numbered) one ∙ cast)) now)

    -- INSERT of a value
    pub adds_numbered : (sql : List ℕ) (terms : List Term) (width : ℕ) → IsInsert schema at sql terms width
        → (params : Row) (x : X) → value_rows params width (length terms / width) terms ≡ row x ∷ []
        → ((rows : List Row) → with_rowid Chosen rows (cast_row numbered (row x)) ≡ row x)
        → (old new : State) → old.now.schema ≡ schema → (xs : List X) → Stores IsValid key row (old.now.trees tree) xs → IsValid x → (count : ℕ) → Executes sql params old new (Ok count)
        → (rows : List Row) × Sets schema tree old.now new.now rows × Stores IsValid key row rows (insert_by key xs x)
    adds_numbered sql terms width text params x given made old new has xs stored valid count h =
        let w = runs_as sql params old new schema has _ text.is text.plain count h in
        let rows = old.now.trees tree in
        let sets = inserts_one schema untied at tree name columns (Some 0) (0 ∷ []) [] is old new has _ params count terms width (row x) given w in
        (put_all rows (row x ∷ []), subst (λ r. Sets schema tree old.now new.now (put_all rows (r ∷ []))) (made rows) sets, inserts_numbered IsValid key row keyed rows xs x stored valid)

    -- UPDATE of the value with this key, which finds one, into this value
    pub changes_numbered : ((db : Trees) → overlay db [] tree ≡ db tree) → (sql : List ℕ) (terms news : List Term) → IsUpdate schema at tree sql terms news → (params : Row) (x : X) (f : X → X)
        → ((y : X) → list_all (holds (params ∷ row y ∷ [])) terms ≡ int_eq (key y) (key x)) → ((y : X) → key (f y) ≡ key y) → ((y : X) → int_eq (key y) (key x) ≡ true → f y ≡ x)
        → ((y : X) → eval_all news (params ∷ row y ∷ []) ≡ row (f y)) → ((y : X) → cast_row numbered (row y) ≡ row y) → ((y : X) → IsValid y → IsValid (f y))
        → (old new : State) → old.now.schema ≡ schema → (xs : List X) → Stores IsValid key row (old.now.trees tree) xs → (count : ℕ) → count ≢ 0 → Executes sql params old new (Ok count)
        → (rows : List Row) × Sets schema tree old.now new.now rows × Stores IsValid key row rows (insert_by key xs x)
    changes_numbered same_tree sql terms news text params x f tests keeps makes sets casts valid old new has xs stored count some h =
        let w = runs_as sql params old new schema has _ text.is text.plain count h in
        let done = updates schema untied at tree name columns (Some 0) (0 ∷ []) [] is old new has _ params count _ w in
        let same = same_tree old.now.trees in
        let db = overlay old.now.trees [] in
        let held : Stores IsValid key row (db tree) xs = subst (λ rows. Stores IsValid key row rows xs) (sym same) stored in
        let test = λ (y : X). int_eq (key y) (key x) in
        let one = some_updated IsValid key row keyed db tree xs held numbered terms news params test f tests keeps sets casts done.0 (done.1.answer Null) (λ none. some (done.3 ∙ none)) in
        let set = updates_stored IsValid key row keyed db tree xs held numbered terms news params test f tests keeps sets casts valid done.0 (done.1.answer Null) in
        let after = λ (rows : List Row). put_all (without_all rows (ids_of done.0)) (map (λ s. cast_row numbered (drop 1 s)) done.0) in
        (after (old.now.trees tree), done.2, subst (λ rows. Stores IsValid key row (after rows) (insert_by key xs x)) same (subst (λ l. Stores IsValid key row (after (db tree)) l) (changed_is_inserted key x f makes xs stored.keyed one) set))

  -- a table with another key
  module _ (primary : List ℕ) (is : slice_get schema.tables at ≡ Some (keyed_table tree name primary columns)) (row : X → Row) where
    abbrev keyed_by : Table
    keyed_by = keyed_table tree name primary columns

    -- INSERT OR REPLACE of a value
    module _ (sql : List ℕ) (terms : List Term) (width : ℕ) (text : IsPut schema at sql terms width)
        (same : X → X → Bool) (shared : (new old : ℤ × X) → list_any (shares None keyed_by (numbered_row IsValid row new) (numbered_row IsValid row old)) schema.indexes ≡ same old.1 new.1)
        (params : Row) (x : X) (given : value_rows params width (length terms / width) terms ≡ (Null ∷ row x) ∷ [])
        (made : (rows : List Row) → with_rowid Chosen rows (cast_row keyed_by (mended Replace keyed_by (Null ∷ row x))) ≡ Int (next_rowid rows) ∷ row x)
        (cast : (id : ℤ) → cast_row keyed_by (Int id ∷ row x) ≡ Int id ∷ row x)
        (old new : State) (has : old.now.schema ≡ schema) where
      pub puts_with_rowids : (all : List (ℤ × X)) → StoresWithRowids IsValid row (old.now.trees tree) all → IsValid x → (count : ℕ) → Executes sql params old new (Ok count)
          → (rows : List Row) × Sets schema tree old.now new.now rows × StoresWithRowids IsValid row rows (delete_where (λ (p : ℤ × X). same p.1 x) all ++ (next_key (λ (p : ℤ × X). p.0) all, x) ∷ [])
      puts_with_rowids all stored valid count h =
          let w = runs_as sql params old new schema has _ text.is text.plain count h in
          let rows = old.now.trees tree in
          let done = replaces schema untied at tree name columns None primary (primary ∷ []) is old new has _ params count terms width (Null ∷ row x) given w in
          let one = made rows in
          let after = put_all (without_all rows (ids_of done.0)) (cast_row keyed_by (with_rowid Chosen rows (cast_row keyed_by (mended Replace keyed_by (Null ∷ row x)))) ∷ []) in
          let now = replaces_with_rowids IsValid row schema.indexes keyed_by same shared rows all x done.0 stored valid (subst (λ r. AreConflicts None schema.indexes keyed_by rows r done.0) one done.1) in (
            after,
            done.2,
            subst (λ r. StoresWithRowids IsValid row (put_all (without_all rows (ids_of done.0)) (r ∷ [])) (delete_where (λ (p : ℤ × X). same p.1 x) all ++ (next_key (λ (p : ℤ × X). p.0) all, x) ∷ [])) (sym (ap (cast_row keyed_by) one ∙ cast (next_rowid rows))) now,
          )

      pub puts_unnumbered : (xs : List X) → StoresUnnumbered IsValid row (old.now.trees tree) xs → IsValid x → (count : ℕ) → Executes sql params old new (Ok count)
          → (rows : List Row) × Sets schema tree old.now new.now rows × StoresUnnumbered IsValid row rows (delete_where (λ y. same y x) xs ++ x ∷ [])
      puts_unnumbered xs stored valid count h =
          let all = stored.numbered in
          let done = puts_with_rowids all stored.stores valid count h in
          (done.0, done.1, unnumbered_after IsValid row (λ y. same y x) done.0 all (next_key (λ (p : ℤ × X). p.0) all) x xs stored.values_are done.2)

    -- INSERT of a value: no other had its key
    module _ (sql : List ℕ) (terms : List Term) (width : ℕ) (text : IsInsert schema at sql terms width)
        (same : X → X → Bool) (shared : (new old : ℤ × X) → list_any (shares None keyed_by (numbered_row IsValid row new) (numbered_row IsValid row old)) schema.indexes ≡ same old.1 new.1)
        (params : Row) (x : X) (given : value_rows params width (length terms / width) terms ≡ (Null ∷ row x) ∷ [])
        (made : (rows : List Row) → with_rowid Chosen rows (cast_row keyed_by (Null ∷ row x)) ≡ Int (next_rowid rows) ∷ row x)
        (old new : State) (has : old.now.schema ≡ schema) where
      pub adds_with_rowids : (all : List (ℤ × X)) → StoresWithRowids IsValid row (old.now.trees tree) all → IsValid x → (count : ℕ) → Executes sql params old new (Ok count)
          → (rows : List Row) × Sets schema tree old.now new.now rows × StoresWithRowids IsValid row rows (delete_where (λ (p : ℤ × X). same p.1 x) all ++ (next_key (λ (p : ℤ × X). p.0) all, x) ∷ [])
      adds_with_rowids all stored valid count h =
          let w = runs_as sql params old new schema has _ text.is text.plain count h in
          let rows = old.now.trees tree in
          let done = inserts_one schema untied at tree name columns None primary (primary ∷ []) is old new has _ params count terms width (Null ∷ row x) given w in
          let after = put_all rows ((Int (next_rowid rows) ∷ row x) ∷ []) in
          let sets : Sets schema tree old.now new.now after = subst (λ r. Sets schema tree old.now new.now (put_all rows (r ∷ []))) (made rows) done in
          (after, sets, inserts_with_rowids IsValid row schema.indexes keyed_by same shared rows all x stored valid (rows_clear schema keyed_by new.now.trees (has_got schema.tables at keyed_by is) sets.sound after sets.rows_are))

      pub adds_unnumbered : (xs : List X) → StoresUnnumbered IsValid row (old.now.trees tree) xs → IsValid x → (count : ℕ) → Executes sql params old new (Ok count)
          → (rows : List Row) × Sets schema tree old.now new.now rows × StoresUnnumbered IsValid row rows (delete_where (λ y. same y x) xs ++ x ∷ [])
      adds_unnumbered xs stored valid count h =
          let all = stored.numbered in
          let done = adds_with_rowids all stored.stores valid count h in
          (done.0, done.1, unnumbered_after IsValid row (λ y. same y x) done.0 all (next_key (λ (p : ℤ × X). p.0) all) x xs stored.values_are done.2)

    pub removes_unnumbered : ((db : Trees) → overlay db [] tree ≡ db tree) → (sql : List ℕ) (terms : List Term) → IsDelete schema at tree sql terms → (params : Row) (p : X → Bool)
        → ((id : ℤ) (x : X) → list_all (holds (params ∷ (Int id ∷ row x) ∷ [])) terms ≡ p x)
        → (old new : State) → old.now.schema ≡ schema → (xs : List X) → StoresUnnumbered IsValid row (old.now.trees tree) xs → (count : ℕ) → Executes sql params old new (Ok count)
        → (rows : List Row) × Sets schema tree old.now new.now rows × StoresUnnumbered IsValid row rows (delete_where p xs)
    removes_unnumbered same_tree sql terms text params p tests old new has xs stored count h =
        let w = runs_as sql params old new schema has _ text.is text.plain count h in
        let done = deletes schema untied at tree name columns None primary (primary ∷ []) is old new has _ params count _ w in
        let same = same_tree old.now.trees in
        let held = subst (λ rows. StoresUnnumbered IsValid row rows xs) (sym same) stored in
        let left = deletes_unnumbered IsValid row (overlay old.now.trees []) tree xs held terms params p tests done.0 (done.1.answer Null) in
        (without_all (old.now.trees tree) (ids_of done.0), done.2, subst (λ rows. StoresUnnumbered IsValid row (without_all rows (ids_of done.0)) (delete_where p xs)) same left)

    pub changes_unnumbered : ((db : Trees) → overlay db [] tree ≡ db tree) → (sql : List ℕ) (terms news : List Term) → IsUpdate schema at tree sql terms news → (params : Row) (p : X → Bool) (f : X → X)
        → ((id : ℤ) (x : X) → list_all (holds (params ∷ (Int id ∷ row x) ∷ [])) terms ≡ p x)
        → ((id : ℤ) (x : X) → eval_all news (params ∷ (Int id ∷ row x) ∷ []) ≡ Int id ∷ row (f x)) → ((id : ℤ) (x : X) → cast_row keyed_by (Int id ∷ row x) ≡ Int id ∷ row x) → ((x : X) → IsValid x → IsValid (f x))
        → (old new : State) → old.now.schema ≡ schema → (xs : List X) → StoresUnnumbered IsValid row (old.now.trees tree) xs → (count : ℕ) → Executes sql params old new (Ok count)
        → (rows : List Row) × Sets schema tree old.now new.now rows × StoresUnnumbered IsValid row rows (update_where p f xs)
    changes_unnumbered same_tree sql terms news text params p f tests sets casts valid old new has xs stored count h =
        let w = runs_as sql params old new schema has _ text.is text.plain count h in
        let done = updates schema untied at tree name columns None primary (primary ∷ []) is old new has _ params count _ w in
        let same = same_tree old.now.trees in
        let held = subst (λ rows. StoresUnnumbered IsValid row rows xs) (sym same) stored in
        let set = updates_unnumbered IsValid row (overlay old.now.trees []) tree xs held keyed_by terms news params p f tests sets casts valid done.0 (done.1.answer Null) in
        let after = λ (rows : List Row). put_all (without_all rows (ids_of done.0)) (map (λ s. cast_row keyed_by (drop 1 s)) done.0) in
        (after (old.now.trees tree), done.2, subst (λ rows. StoresUnnumbered IsValid row (after rows) (update_where p f xs)) same set)
