-- What the statements on reserved spans do to the values of the tables, and what they show.
use Rattle.std.proofs.Common.{◌≡◌, ℕ, ℤ, pos, false, List, [], ◌∷◌, ◌++◌, map, filter, nat_cmp, int_cmp, Ok, refl, ap, ◌∙◌}
use Rattle.std.specs.List.{list_all}
use Rattle.sqlite.specs.declared.types.Value.TheVariants.{Int}
use Rattle.sqlite.specs.Edit.{with_rowid}
use Rattle.sqlite.specs.Order.{Row}
use Rattle.sqlite.specs.Program.{overlay}
use Rattle.sqlite.specs.Rowids.TheVariants.{Chosen}
use Rattle.sqlite.specs.State.{State, Executes, Shown, IsUnchanged}
use Rattle.sqlite.specs.Term.{holds}
use Rattle.sqlite_keyed.specs.Lists.{delete_where, sort_by}
use Rattle.sqlite_sql.specs.declared.ops.CompareOp.TheVariants.{Eq, Ge, Le}
use Rattle.sqlite_value.proofs.OrderLemmas.{value_cmp-Int}
use Rattle.sqlite_typed.proofs.TestLemmas.{at_ints, then_term, last_term, then_key, last_key}
use Rattle.usbnum_core.specs.declared.number.Span.{Span}
use Rattle.table_laws.proofs.SortedLemmas.{shows_sorted}
use Rattle.table_laws.proofs.StatementLemmas.{answers, puts_unnumbered, removes_unnumbered}
use Rattle.registry_schema.specs.Schema.{schema_5, spans3_table}
use Rattle.registry_rows.specs.Rows.{whole, span_row, IsVendorSpan, begins_at, meets, by_beginning}
use Rattle.registry_rows.specs.Tables.{Tables, Holds}
use Rattle.registry_rows.proofs.HoldLemmas.{untied, holds_spans}
use Rattle.registry_rows.proofs.KeyLemmas.{cast_span, cast_span_numbered, spans_shared}
use Rattle.registry_rows.proofs.NumberLemmas.{same_numbers, same_order}
use Rattle.registry_rows.proofs.ReadLemmas.{then_then}
use Rattle.registry_rows.proofs.SpanTexts.{put_span_text, put_span_terms, put_span_is, meeting, cut_spans_text, cut_spans_is, find_spans_text, find_spans_query, find_spans_is}

pub puts_span : (old new : State) (x : ℕ × Span) (count : ℕ) → IsVendorSpan x → Executes put_span_text (span_row x) old new (Ok count) → (t : Tables) → Holds old.now t
    → Holds new.now (record t { spans = delete_where (λ y. begins_at x.0 x.1.first y) t.spans ++ x ∷ [] })
puts_span old new x count valid h t has =
    let done = puts_unnumbered schema_5 untied 11 15 spans3_table.name spans3_table.columns IsVendorSpan (1 ∷ 2 ∷ []) refl span_row put_span_text put_span_terms 4 put_span_is (λ y x. begins_at x.0 x.1.first y) spans_shared (span_row x) x refl
    (λ rows. ap (with_rowid Chosen rows) (cast_span x)) (cast_span_numbered x) old new has.schema t.spans has.rows.spans valid count h in
    holds_spans old.now new.now t done.0 _ has done.1 done.2

tells_meeting : (vid low high : ℕ) (id : ℤ) (s : ℕ × Span) → list_all (holds ((whole vid ∷ whole low ∷ whole high ∷ []) ∷ (Int id ∷ span_row s) ∷ [])) meeting ≡ meets vid low high s
tells_meeting vid low high id s =
    then_term (at_ints false Eq (pos s.0) (pos vid) ∙ same_numbers s.0 vid) (then_term (at_ints false Ge (pos s.1.last) (pos low)) (last_term (at_ints false Le (pos s.1.first) (pos high))))

pub cuts_spans : (old new : State) (vid low high : ℕ) (count : ℕ) → Executes cut_spans_text (whole vid ∷ whole low ∷ whole high ∷ []) old new (Ok count) → (t : Tables) → Holds old.now t
    → Holds new.now (record t { spans = delete_where (meets vid low high) t.spans })
cuts_spans old new vid low high count h t has =
    let done = removes_unnumbered schema_5 untied 11 15 spans3_table.name spans3_table.columns IsVendorSpan (1 ∷ 2 ∷ []) refl span_row (λ db. refl) cut_spans_text meeting cut_spans_is (whole vid ∷ whole low ∷ whole high ∷ [])
    (meets vid low high) (tells_meeting vid low high) old new has.schema t.spans has.rows.spans count h in
    holds_spans old.now new.now t done.0 _ has done.1 done.2

pub reads_find_spans : (old new : State) (vid low high : ℕ) (rows : List Row) → Shown find_spans_text (whole vid ∷ whole low ∷ whole high ∷ []) old new rows → (t : Tables) → Holds old.now t
    → IsUnchanged old new × (rows ≡ map span_row (sort_by by_beginning (filter (meets vid low high) t.spans)))
reads_find_spans old new vid low high rows h t has =
    let read = answers schema_5 find_spans_text find_spans_query _ find_spans_is (whole vid ∷ whole low ∷ whole high ∷ []) old new has.schema rows h in (
      read.0,
      shows_sorted IsVendorSpan span_row (overlay old.now.trees []) 15 t.spans has.rows.spans find_spans_query (whole vid ∷ whole low ∷ whole high ∷ []) (meets vid low high) span_row (tells_meeting vid low high) (λ id x. refl) by_beginning
          (λ a b. then_key (value_cmp-Int (pos (a.1.0)) (pos (b.1.0)) ∙ same_order (a.1.0) (b.1.0)) (then_key (value_cmp-Int (pos (a.1.1.first)) (pos (b.1.1.first)) ∙ same_order (a.1.1.first) (b.1.1.first)) (last_key (value_cmp-Int a.0 b.0)))
          ∙ then_then (nat_cmp (a.1.0) (b.1.0)) (nat_cmp (a.1.1.first) (b.1.1.first)) (int_cmp a.0 b.0)) rows read.1,
    )
