-- What INSERT OR REPLACE of one row, INSERT of one row or of a query's rows, UPDATE and DELETE do to the rows of a table
-- with any columns.
use Rattle.std.proofs.Common.{◌≡◌, ◌≢◌, inl, inr, ℕ, suc, ℤ, ◌/◌, length, append-nil, List, [], ◌∷◌, map, drop, slice_get, Option, Some, None, Ok, refl, sym, ap, subst, ◌∙◌}
use Rattle.std.specs.Prelude.{unwrap_or}
use Rattle.std.specs.List.{AllByRecursion}
use Rattle.sqlite.specs.Order.{Row}
use Rattle.sqlite.specs.Tree.{Trees, put_row}
use Rattle.sqlite.specs.Term.{Term}
use Rattle.sqlite.specs.Table.{Table}
use Rattle.sqlite.specs.Schema.{Schema}
use Rattle.sqlite.specs.Source.{Source}
use Rattle.sqlite.specs.Source.TheVariants.{Values, Query}
use Rattle.sqlite.specs.Command.{Command}
use Rattle.sqlite.specs.Command.TheVariants.{Insert, InsertOr, Update, Delete}
use Rattle.sqlite.specs.Edit.{taken_by, Edit, with_rowid, numbered, edit_of, put_all, without_all, Applies}
use Rattle.sqlite.specs.Cast.{cast_row}
use Rattle.sqlite.specs.Rowids.TheVariants.{Chosen, Given}
use Rattle.sqlite.specs.Effect.{Database, Answers, IsSource, value_rows}
use Rattle.sqlite.specs.Does.{Tally, Does, Concludes, WritesRows}
use Rattle.sqlite.specs.Rows.{Written, Then, Task, mended, nothing, Edited, Puts, Tries, TriesEach, Judged, Upserts, Clears, count_of}
use Rattle.sqlite.specs.State.{State, mode_of, Writes}
use Rattle.sqlite.proofs.Callers.{one_step}
use Rattle.sqlite_catalog.specs.Listing.{IsSound}
use Rattle.sqlite_schema.specs.declared.command.Conflict.TheVariants.{Replace}
use Rattle.sqlite_schema.specs.declared.schema.Column.{Column}
use Rattle.sqlite_schema.specs.declared.schema.Keys.{Keys}
use Rattle.sqlite_schema.specs.declared.program.Program.{Program}
use Rattle.sqlite_rules.specs.declared.error.Refusal.{Refusal}
use Rattle.sqlite_rules.specs.Calls.{ids_of}
use Rattle.sqlite_rules.specs.Keys.{AreConflicts}
use Rattle.table_laws.specs.Shape.{bare_table}
use Rattle.table_laws.proofs.PartLemmas.{same_ok, went}
use Rattle.table_laws.proofs.SetLemmas.{IsUntied, Sets}

-- without foreign key actions an edit is applied as it is
edits : (schema : Schema) → IsUntied schema → (keys : Keys) (db next : Trees) (edit : Edit) → Edited schema keys db edit (Ok next) → Applies schema keys db edit next
edits schema untied keys db next edit h = one_step schema keys db next edit (untied keys edit.table.tree (taken_by db edit) edit.news) h

module _ (schema : Schema) (untied : IsUntied schema) (at tree : ℕ) (name : List ℕ) (columns : List Column) (key : Option ℕ) (primary : List ℕ) (uniques : List (List ℕ))
    (is : slice_get schema.tables at ≡ Some (bare_table tree name columns key primary uniques)) where
  abbrev table : Table
  table = bare_table tree name columns key primary uniques

  abbrev Others : Trees → Trees → Type 0
  Others before after = AllByRecursion (λ (it : Table). it.tree ≢ tree → after it.tree ≡ before it.tree) schema.tables

  others_then : (tables : List Table) (a b c : Trees) → AllByRecursion (λ (it : Table). it.tree ≢ tree → b it.tree ≡ a it.tree) tables → AllByRecursion (λ (it : Table). it.tree ≢ tree → c it.tree ≡ b it.tree) tables
      → AllByRecursion (λ (it : Table). it.tree ≢ tree → c it.tree ≡ a it.tree) tables
  others_then [] a b c p q = tt
  others_then (t ∷ ts) a b c p q = (λ apart. q.0 apart ∙ p.0 apart, others_then ts a b c p.1 q.1)

  module _ (old new : State) (has : old.now.schema ≡ schema) (text : List ℕ) (params : Row) (count : ℕ) where
    abbrev task : Task
    task = record { limit = old.step_limit; keys = (mode_of old).keys; schema = schema; table = table; params = params }

    -- the rows were written to these trees, which are now those of the database, and were counted
    abbrev Ran : Command → Tally → Type 0
    Ran command tally = (w : Written) × WritesRows task old.now.trees command (Ok w) × (new.now ≡ record { schema = schema; trees = w.trees }) × (tally.rows ≡ Some (length w.rows))

    ran_on_rows : (command : Command) (tally : Tally) → Then (WritesRows task old.now.trees command) (Concludes task (mode_of old) None) (Ok (tally, new.now)) → Ran command tally
    ran_on_rows command tally h =
        let all = went h in
        let tested = went all.2 in
        let shown = went tested.2 in
        let last = same_ok shown.2 in
        (all.0, all.1, ap (λ (p : Tally × Database). p.1) last, ap (λ (p : Tally × Database). p.0.rows) last)

    -- the new database is sound
    stays_sound : (command : Command) → Writes old new None command text params count → new.now.schema ≡ schema → IsSound schema new.now.trees
    stays_sound command w same = subst (λ s. IsSound s new.now.trees) same w.sound

    -- the row that INSERT OR REPLACE inserts
    abbrev pub new_row : Row → Row
    new_row source = with_rowid Chosen (old.now.trees tree) (cast_row table (mended Replace table source))

    puts : (one : Row) (db : Trees) (done : Written) → Puts task one db (Ok done) → (done.trees tree ≡ put_all (db tree) (cast_row table one ∷ [])) × Others db done.trees
    puts one db done h =
        let wrote = went h in
        let all = edits schema untied (mode_of old).keys db wrote.0 (edit_of db table [] Given 0 (one ∷ [])) wrote.1 in
        let same : done.trees ≡ wrote.0 = ap (λ (it : Written). it.trees) (same_ok wrote.2) in (
          ap (λ (t : Trees). t tree) same ∙ all.rows,
          subst (Others db) (sym same) all.tables,
        )

    -- the row is inserted after the rows with its keys are removed
    clears : (one : Row) (db : Trees) (found : List Row) (done : Written) → Clears task Replace one db found (Ok done)
        → (done.trees tree ≡ put_all (without_all (db tree) (ids_of found)) (cast_row table one ∷ [])) × Others db done.trees
    clears one db [] done h = puts one db done h
    clears one db (x ∷ more) done h =
        let gone = went h in
        let all = edits schema untied (mode_of old).keys db gone.0 (edit_of db table (ids_of (x ∷ more)) Given 0 []) gone.1 in
        let back = puts one gone.0 done gone.2 in
        (back.0 ∙ ap (λ rows. put_all rows (cast_row table one ∷ [])) all.rows, others_then schema.tables db gone.0 done.trees all.tables back.1)

    judged : (one : Row) (db : Trees) (verdict : Option Refusal) (done : Written) → Judged task Replace [] one db verdict (Ok done) → Upserts task Replace one db [] (Ok done)
    judged one db None done h = h
    judged one db (Some why) done h = absurd (cc)

    tries : (one : Row) (db : Trees) (done : Written) → Tries task Replace [] one db (Ok done)
        → (found : List Row) × AreConflicts None schema.indexes table (db tree) one found
        × (done.trees tree ≡ put_all (without_all (db tree) (ids_of found)) (cast_row table one ∷ []))
        × Others db done.trees
    tries one db done (inl refused) = absurd (let e = refused.1 in cc)
    tries one db done (inr h) =
        let found = judged one db h.0 done h.2 in
        let kept = clears one db found.0 done found.2 in
        (found.0, found.1, kept.0, kept.1)

    -- INSERT OR REPLACE of one row removes the rows that conflict with it, and inserts it
    pub replaces : (terms : List Term) (width : ℕ) (source : Row) → value_rows params width (length terms / width) terms ≡ source ∷ []
        → Writes old new None (InsertOr at Replace (Values terms width) []) text params count
        → (found : List Row) × AreConflicts None schema.indexes table (old.now.trees tree) (new_row source) found
        × Sets schema tree old.now new.now (put_all (without_all (old.now.trees tree) (ids_of found)) (cast_row table (new_row source) ∷ []))
    replaces terms width source one w =
        let command = InsertOr at Replace (Values terms width) [] in
        let db = old.now.trees in
        let put = subst (λ s. Does old.step_limit (mode_of old) params (record old.now { schema = s }) text None command (Ok (w.tally, new.now))) has w.changed in
        let ran = ran_on_rows command w.tally (rw is at put) in
        let given = went ran.1 in
        let counter = went given.2 in
        let tried = went counter.2 in
        let counted = went tried.2 in
        let sources : given.0 ≡ source ∷ [] = given.1.1 ∙ rw append-nil one in
        let each = subst (λ all. TriesEach task Replace [] all (count_of counter.0) (nothing db) (Ok tried.0)) sources tried.1 in
        let first = went each in
        let done = tries (new_row source) db first.0 first.1 in
        let trees : ran.0.trees ≡ first.0.trees =
        ap (λ (it : Written). it.trees) (same_ok counted.2) ∙ same_ok counted.1 ∙ ap (λ (it : Written × ℤ). it.0.trees) (same_ok first.2) in
        let now : new.now.trees ≡ first.0.trees = ap (λ (d : Database). d.trees) ran.2 ∙ trees in
        let same : new.now.schema ≡ schema = ap (λ (d : Database). d.schema) ran.2 in (
          done.0,
          done.1,
          record {
            same_schema = same;
            sound = stays_sound command w same;
            rows_are = ap (λ (t : Trees). t tree) now ∙ done.2;
            others = subst (Others db) (sym now) done.3;
          },
        )

    -- INSERT inserts the rows of its source in order, each with the next rowid unless it has one
    inserts_from : (from : Source) → Writes old new None (Insert at from) text params count
        → (found : List Row) × IsSource (record { schema = schema; trees = old.now.trees }) params from found
        × Sets schema tree old.now new.now (put_all (old.now.trees tree) (numbered Chosen (old.now.trees tree) (map (λ s. cast_row table s) found)))
    inserts_from from w =
        let command = Insert at from in
        let db = old.now.trees in
        let put = subst (λ s. Does old.step_limit (mode_of old) params (record old.now { schema = s }) text None command (Ok (w.tally, new.now))) has w.changed in
        let ran = ran_on_rows command w.tally (rw is at put) in
        let found = went ran.1 in
        let counter = went found.2 in
        let none = same_ok counter.1 in
        let edit = edit_of db table [] Chosen 0 found.0 in
        let wrote = went counter.2 in
        let counted = went wrote.2 in
        let all = edits schema untied (mode_of old).keys db wrote.0 edit wrote.1 in
        let trees : ran.0.trees ≡ wrote.0 = ap (λ (it : Written). it.trees) (same_ok counted.2) ∙ same_ok counted.1 in
        let now : new.now.trees ≡ wrote.0 = ap (λ (d : Database). d.trees) ran.2 ∙ trees in
        let same : new.now.schema ≡ schema = ap (λ (d : Database). d.schema) ran.2 in (
          found.0,
          subst (λ (given : Row). IsSource (record { schema = schema; trees = db }) given from found.0) (append-nil params) found.1,
          record {
            same_schema = same;
            sound = stays_sound command w same;
            rows_are = ap (λ (t : Trees). t tree) now ∙ all.rows;
            others = subst (Others db) (sym now) all.tables;
          },
        )

    pub inserts : (q : Program) → Writes old new None (Insert at (Query q)) text params count
        → (found : List Row) × Answers (record { schema = schema; trees = old.now.trees }) q params found
        × Sets schema tree old.now new.now (put_all (old.now.trees tree) (numbered Chosen (old.now.trees tree) (map (λ s. cast_row table s) found)))
    inserts q w = inserts_from (Query q) w

    pub inserts_one : (terms : List Term) (width : ℕ) (one : Row) → value_rows params width (length terms / width) terms ≡ one ∷ []
        → Writes old new None (Insert at (Values terms width)) text params count
        → Sets schema tree old.now new.now (put_all (old.now.trees tree) (with_rowid Chosen (old.now.trees tree) (cast_row table one) ∷ []))
    inserts_one terms width one given w =
        let done = inserts_from (Values terms width) w in
        subst (λ found. Sets schema tree old.now new.now (put_all (old.now.trees tree) (numbered Chosen (old.now.trees tree) (map (λ s. cast_row table s) found)))) (done.1.1 ∙ given) done.2

    -- DELETE removes the rows that its query finds
    pub deletes : (q : Program) → Writes old new None (Delete at q) text params count
        → (found : List Row) × Answers (record { schema = schema; trees = old.now.trees }) q params found × Sets schema tree old.now new.now (without_all (old.now.trees tree) (ids_of found))
    deletes q w =
        let command = Delete at q in
        let db = old.now.trees in
        let put = subst (λ s. Does old.step_limit (mode_of old) params (record old.now { schema = s }) text None command (Ok (w.tally, new.now))) has w.changed in
        let ran = ran_on_rows command w.tally (rw is at put) in
        let found = went ran.1 in
        let gone = went found.2 in
        let all = edits schema untied (mode_of old).keys db gone.0 (edit_of db table (ids_of found.0) Given 0 []) gone.1 in
        let now : new.now.trees ≡ gone.0 = ap (λ (d : Database). d.trees) ran.2 ∙ ap (λ (it : Written). it.trees) (same_ok gone.2) in
        let same : new.now.schema ≡ schema = ap (λ (d : Database). d.schema) ran.2 in (
          found.0,
          found.1,
          record {
            same_schema = same;
            sound = stays_sound command w same;
            rows_are = ap (λ (t : Trees). t tree) now ∙ all.rows;
            others = subst (Others db) (sym now) all.tables;
          },
        )

    given_rows : (rows sources : List Row) → numbered Given rows sources ≡ sources
    given_rows rows [] = refl
    given_rows rows (r ∷ rs) = ap (λ l. r ∷ l) (given_rows (put_row r rows) rs)

    as_many : (rows sources : List Row) → length (numbered Given rows (map (λ s. cast_row table (drop 1 s)) sources)) ≡ length sources
    as_many rows [] = refl
    as_many rows (s ∷ more) = ap suc (as_many (put_row (cast_row table (drop 1 s)) rows) more)

    -- UPDATE removes the rows that its query finds, inserts the new rows that the query returns with them, and counts them
    pub updates : (q : Program) → Writes old new None (Update at q) text params count
        → (found : List Row) × Answers (record { schema = schema; trees = old.now.trees }) q params found
        × Sets schema tree old.now new.now (put_all (without_all (old.now.trees tree) (ids_of found)) (map (λ s. cast_row table (drop 1 s)) found))
        × (count ≡ length found)
    updates q w =
        let command = Update at q in
        let db = old.now.trees in
        let put = subst (λ s. Does old.step_limit (mode_of old) params (record old.now { schema = s }) text None command (Ok (w.tally, new.now))) has w.changed in
        let ran = ran_on_rows command w.tally (rw is at put) in
        let found = went ran.1 in
        let set = went found.2 in
        let all = edits schema untied (mode_of old).keys db set.0 (edit_of db table (ids_of found.0) Given 1 found.0) set.1 in
        let now : new.now.trees ≡ set.0 = ap (λ (d : Database). d.trees) ran.2 ∙ ap (λ (it : Written). it.trees) (same_ok set.2) in
        let same : new.now.schema ≡ schema = ap (λ (d : Database). d.schema) ran.2 in (
          found.0,
          found.1,
          record {
            same_schema = same;
            sound = stays_sound command w same;
            rows_are = ap (λ (t : Trees). t tree) now ∙ all.rows ∙ ap (put_all (without_all (db tree) (ids_of found.0))) (given_rows _ (map (λ s. cast_row table (drop 1 s)) found.0));
            others = subst (Others db) (sym now) all.tables;
          },
          w.counted ∙ ap (λ n. unwrap_or n 0) ran.3 ∙ ap (λ (it : Written). length it.rows) (same_ok set.2) ∙ as_many _ found.0,
        )
