-- What the statements on the tables of the second schema do to the values, and what they show.
use Rattle.std.proofs.Common.{◌≡◌, ◌≢◌, Vec, Some, ℕ, true, List, [], ◌∷◌, map, Ok, Err, Result, MatchResult, refl, ap, subst, ◌∙◌}
use Rattle.std.specs.List.{AllByRecursion}
use Rattle.sqlite.specs.Order.{Row}
use Rattle.sqlite.specs.declared.types.Value.TheVariants.{Null}
use Rattle.sqlite.specs.Edit.{with_rowid}
use Rattle.sqlite.specs.Rowids.TheVariants.{Chosen}
use Rattle.sqlite.specs.Program.{overlay}
use Rattle.sqlite.specs.State.{State, Executes, Shown, IsUnchanged}
use Rattle.sqlite.proofs.Callers.{runs_as}
use Rattle.sqlite_keyed.specs.Keyed.{insert_by}
use Rattle.sqlite_value.proofs.OrderLemmas.{value_cmp-Int}
use Rattle.sqlite_typed.proofs.TestLemmas.{last_key}
use Rattle.usbnum_core.specs.Number.{IsId}
use Rattle.usbnum_core.specs.declared.number.Span.{Span}
use Rattle.table_laws.specs.Stored.{Stores}
use Rattle.table_laws.proofs.ReadLemmas.{shows_rows}
use Rattle.table_laws.proofs.DeleteLemmas.{deletes_stored}
use Rattle.table_laws.proofs.UnnumberedLemmas.{kept_all}
use Rattle.table_laws.proofs.WriteLemmas.{deletes}
use Rattle.table_laws.proofs.StatementLemmas.{answers, puts_numbered}
use Rattle.registry_schema.specs.Schema.{schema_2, meta_table, reserved_table, spans_table}
use Rattle.registry_schema.specs.declared.fault.TableFault.{TableFault}
use Rattle.registry_schema.specs.declared.fault.TableFault.TheVariants.{Foreign}
use Rattle.registry_rows.specs.declared.meta.Meta.{Meta}
use Rattle.registry_rows.specs.Rows.{whole, meta_key, meta_row, meta_shown, IsMeta}
use Rattle.registry_rows.specs.Tables.{Tables}
use Rattle.registry_rows.proofs.KeyLemmas.{cast_meta, cast_fixed}
use Rattle.registry_old_rows.specs.declared.second.Reserved.{Reserved}
use Rattle.std.specs.declared.alloc.Global.{Global}
use Rattle.registry_old_rows.specs.Old.{number_key, number_row, number_shown, old_span_key, old_span_row, IsSpanOf}
use Rattle.registry_old_rows.specs.Between.{HoldsSecond}
use Rattle.registry_old_rows.proofs.AgreeLemmas.{untied_2}
use Rattle.registry_old_rows.proofs.HoldLemmas.{holds_second_metas, holds_second_spans, holds_second_reserved}
use Rattle.registry_old_rows.proofs.MoveLemmas.{none_left}
use Rattle.registry_old_rows.proofs.OldTexts.{old_meta_text, old_meta_query, old_meta_is, put_old_meta_text, put_old_meta_terms, put_old_meta_is, list_reserved_text, list_reserved_query, list_reserved_is, empty_reserved_text, empty_reserved_is, put_old_span_text, put_old_span_terms, put_old_span_is}

pub reads_old_meta : (vid : ℕ) (old new : State) (rows : List Row) → Shown old_meta_text [] old new rows → (t : Tables) (numbers : List ℕ) → HoldsSecond vid old.now t numbers
    → IsUnchanged old new × (rows ≡ map meta_shown t.metas)
reads_old_meta vid old new rows h t numbers has =
    let read = answers schema_2 old_meta_text old_meta_query _ old_meta_is [] old new has.schema rows h in (
      read.0,
      shows_rows IsMeta meta_key meta_row (overlay old.now.trees []) 0 t.metas has.rows.first.lasting.metas old_meta_query [] (λ _. true) meta_shown (λ x. refl) (λ x. refl) (λ a b. last_key (value_cmp-Int (meta_key a) (meta_key b))) rows read.1
          ∙ ap (map meta_shown) (kept_all t.metas),
    )

pub reads_reserved : (vid : ℕ) (old new : State) (rows : List Row) → Shown list_reserved_text [] old new rows → (t : Tables) (numbers : List ℕ) → HoldsSecond vid old.now t numbers
    → IsUnchanged old new × (rows ≡ map number_shown numbers)
reads_reserved vid old new rows h t numbers has =
    let read = answers schema_2 list_reserved_text list_reserved_query _ list_reserved_is [] old new has.schema rows h in (
      read.0,
      shows_rows IsId number_key number_row (overlay old.now.trees []) 10 numbers has.rows.first.reserved list_reserved_query [] (λ _. true) number_shown (λ x. refl) (λ x. refl) (λ a b. last_key (value_cmp-Int (number_key a) (number_key b))) rows read.1
          ∙ ap (map number_shown) (kept_all numbers),
    )

pub puts_old_meta : (vid : ℕ) (old new : State) (x : Meta) (count : ℕ) → IsMeta x → Executes put_old_meta_text (meta_shown x) old new (Ok count) → (t : Tables) (numbers : List ℕ) → HoldsSecond vid old.now t numbers
    → HoldsSecond vid new.now (record t { metas = insert_by meta_key t.metas x }) numbers
puts_old_meta vid old new x count valid h t numbers has =
    let done = puts_numbered schema_2 untied_2 0 0 meta_table.name meta_table.columns IsMeta refl meta_key meta_row (λ _. refl) put_old_meta_text put_old_meta_terms 5 put_old_meta_is (λ new old. refl) (meta_shown x) x refl
    (λ rows. ap (with_rowid Chosen rows) (cast_meta x)) (cast_meta x) old new has.schema t.metas has.rows.first.lasting.metas valid count h in
    holds_second_metas vid old.now new.now t numbers done.0 _ has done.1 done.2

pub puts_old_span : (vid : ℕ) (old new : State) (x : Span) (count : ℕ) → IsSpanOf vid (vid, x) → Executes put_old_span_text (whole x.first ∷ whole x.last ∷ []) old new (Ok count) → (t : Tables) (numbers : List ℕ) → HoldsSecond vid old.now t numbers
    → HoldsSecond vid new.now (record t { spans = insert_by old_span_key t.spans (vid, x) }) numbers
puts_old_span vid old new x count valid h t numbers has =
    let done = puts_numbered schema_2 untied_2 9 13 spans_table.name spans_table.columns (IsSpanOf vid) refl old_span_key old_span_row (λ _. refl) put_old_span_text put_old_span_terms 3 put_old_span_is (λ new old. refl) (whole x.first ∷ whole x.last ∷ []) (vid, x) refl
    (λ rows. ap (with_rowid Chosen rows) (cast_fixed x)) (cast_fixed x) old new has.schema t.spans has.rows.spans valid count h in
    holds_second_spans vid old.now new.now t numbers done.0 _ has done.1 done.2

pub empties_reserved : (vid : ℕ) (old new : State) (count : ℕ) → Executes empty_reserved_text [] old new (Ok count) → (t : Tables) (numbers : List ℕ) → HoldsSecond vid old.now t numbers → HoldsSecond vid new.now t []
empties_reserved vid old new count h t numbers has =
    let w = runs_as empty_reserved_text [] old new schema_2 has.schema _ empty_reserved_is.is empty_reserved_is.plain count h in
    let done = deletes schema_2 untied_2 7 10 reserved_table.name reserved_table.columns (Some 0) (0 ∷ []) [] refl old new has.schema _ [] count _ w in
    let left = deletes_stored IsId number_key number_row (λ _. refl) (overlay old.now.trees []) 10 numbers has.rows.first.reserved [] [] (λ _. true) (λ _. refl) done.0 (done.1.answer Null) in
    holds_second_reserved vid old.now new.now t numbers _ [] has done.2 (subst (Stores IsId number_key number_row _) (none_left numbers) left)

-- ---- numbers of their own type

as_reserved : ℕ → Reserved
as_reserved n = record { pid = n }

abbrev shown_reserved : Reserved → Row
shown_reserved one = number_shown one.pid

valid_reserved : (numbers : List ℕ) → AllByRecursion IsId numbers → AllByRecursion (λ (one : Reserved). IsId one.pid) (map as_reserved numbers)
unfolding as_reserved
valid_reserved [] all = tt
valid_reserved (n ∷ ns) all = (all.0, valid_reserved ns all.1)

rows_reserved : (numbers : List ℕ) → map number_shown numbers ≡ map shown_reserved (map as_reserved numbers)
unfolding as_reserved
rows_reserved [] = refl
rows_reserved (n ∷ ns) = ap (λ l. number_shown n ∷ l) (rows_reserved ns)

back : (numbers : List ℕ) → map (λ (one : Reserved). one.pid) (map as_reserved numbers) ≡ numbers
unfolding as_reserved
back [] = refl
back (n ∷ ns) = ap (λ l. n ∷ l) (back ns)

pub reads_numbers : (rows : List Row) (result : Result (Vec Reserved Global) TableFault)
    → ((values : List Reserved) → AllByRecursion (λ (one : Reserved). IsId one.pid) values → rows ≡ map shown_reserved values → MatchResult result (λ all. all.items ≡ values) (λ fault. fault ≢ Foreign))
    → (values : List ℕ) → AllByRecursion IsId values → rows ≡ map number_shown values → MatchResult result (λ all. map (λ (one : Reserved). one.pid) all.items ≡ values) (λ fault. fault ≢ Foreign)
reads_numbers rows (Ok all) reads values valid is = ap (map (λ (one : Reserved). one.pid)) (reads (map as_reserved values) (valid_reserved values valid) (is ∙ rows_reserved values)) ∙ back values
reads_numbers rows (Err e) reads values valid is = reads (map as_reserved values) (valid_reserved values valid) (is ∙ rows_reserved values)
