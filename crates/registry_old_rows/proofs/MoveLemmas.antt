-- What the statements that move rows do to the values of the tables.
use Rattle.std.proofs.Common.{◌≡◌, ℕ, true, List, [], ◌∷◌, ◌++◌, map, Some, None, Ok, refl, sym, ap, subst, ◌∙◌}
use Rattle.std.specs.List.{AllByRecursion}
use Rattle.sqlite.specs.declared.types.Value.TheVariants.{Null}
use Rattle.sqlite.specs.Order.{Row}
use Rattle.sqlite.specs.Edit.{put_all, numbered}
use Rattle.sqlite.specs.Cast.{cast_row}
use Rattle.sqlite.specs.Rowids.TheVariants.{Chosen}
use Rattle.sqlite.specs.Program.{overlay}
use Rattle.sqlite.specs.State.{State, Executes}
use Rattle.sqlite.proofs.Callers.{runs_as}
use Rattle.sqlite_keyed.specs.Lists.{delete_where}
use Rattle.sqlite_keyed.proofs.ListLemmas.{map-map, map_same}
use Rattle.sqlite_value.proofs.OrderLemmas.{value_cmp-Int}
use Rattle.sqlite_typed.proofs.TestLemmas.{last_key}
use Rattle.usbnum_core.specs.declared.number.Number.{Number}
use Rattle.usbnum_core.specs.declared.number.Span.{Span}
use Rattle.registry_rules.specs.declared.record.Entry.{Entry}
use Rattle.registry_rules.specs.declared.record.Petition.{Petition}
use Rattle.table_laws.specs.Stored.{Stores, StoresUnnumbered}
use Rattle.table_laws.proofs.ReadLemmas.{shows_rows}
use Rattle.table_laws.proofs.DeleteLemmas.{deletes_stored}
use Rattle.table_laws.proofs.UnnumberedLemmas.{kept_all}
use Rattle.table_laws.proofs.WriteLemmas.{inserts, deletes}
use Rattle.table_laws.proofs.CopyLemmas.{appends, fills}
use Rattle.registry_schema.specs.Schema.{schema_5, entries_table, petitions_table, spans_table, spans3_table, entries3_table, petitions3_table}
use Rattle.registry_rows.specs.Rows.{whole, span_row, IsVendorSpan, entry_row, IsEntry, petition_key, petition_row, IsPetition}
use Rattle.registry_rows.specs.Tables.{Tables}
use Rattle.registry_rows.proofs.KeyLemmas.{cast_span, cast_entry, cast_petition}
use Rattle.registry_old_rows.specs.Old.{old_span_key, old_span_row, old_entry_key, old_entry_row, old_petition_row, IsSpanOf, IsEntryOf, IsPetitionOf}
use Rattle.registry_old_rows.specs.Between.{HoldsBoth}
use Rattle.registry_old_rows.proofs.AgreeLemmas.{untied_5}
use Rattle.registry_old_rows.proofs.HoldLemmas.{holds_new_spans, holds_new_entries, holds_new_petitions, holds_old_spans, holds_old_entries, holds_old_petitions}
use Rattle.registry_old_rows.proofs.OldTexts.{copy_spans_text, copy_spans_query, copy_spans_is, copy_entries_text, copy_entries_query, copy_entries_is, copy_petitions_text, copy_petitions_query, copy_petitions_is, empty_spans_text, empty_spans_is, empty_entries_text, empty_entries_is, empty_petitions_text, empty_petitions_is}

-- ---- lists

map_on : {X Y : Type 0} (P : X → Type 0) (f g : X → Y) → ((x : X) → P x → f x ≡ g x) → (xs : List X) → AllByRecursion P xs → map f xs ≡ map g xs
map_on P f g same [] all = refl
map_on P f g same (x ∷ xs) all = rw (same x all.0) (ap (λ l. g x ∷ l) (map_on P f g same xs all.1))

all_of : {X : Type 0} (P Q : X → Type 0) → ((x : X) → P x → Q x) → (xs : List X) → AllByRecursion P xs → AllByRecursion Q xs
all_of P Q then [] all = tt
all_of P Q then (x ∷ xs) all = (then x all.0, all_of P Q then xs all.1)

pub none_left : {X : Type 0} (xs : List X) → delete_where (λ _. true) xs ≡ []
none_left [] = refl
none_left (x ∷ xs) = none_left xs

-- ---- copies

-- the row that the query shows for a value of the old table, with the given vendor
abbrev span_with : ℕ → ℕ × Span → Row
span_with vid s = Null ∷ whole vid ∷ whole s.1.first ∷ whole s.1.last ∷ []

abbrev with_vid : ℕ → Number → Number
with_vid vid n = record { vid = vid; pid = n.pid }

abbrev entry_with : ℕ → Number × Entry → Row
entry_with vid e = Null ∷ entry_row (with_vid vid e.0, e.1)

abbrev petition_with : ℕ → ℕ × Petition → Row
petition_with vid p = petition_row (p.0, record p.1 { vid = vid })

own_span : (vid : ℕ) (s : ℕ × Span) → IsSpanOf vid s → span_with vid s ≡ Null ∷ span_row s
own_span vid s is = rw is.own refl

own_entry : (vid : ℕ) (e : Number × Entry) → IsEntryOf vid e → entry_with vid e ≡ Null ∷ entry_row e
own_entry vid e is = rw is.own refl

own_petition : (vid : ℕ) (p : ℕ × Petition) → IsPetitionOf vid p → petition_with vid p ≡ petition_row p
own_petition vid p is = rw is.own refl

pub copies_spans : (vid : ℕ) (old new : State) (count : ℕ) → Executes copy_spans_text (whole vid ∷ []) old new (Ok count) → (o t : Tables) → HoldsBoth vid old.now o t
    → HoldsBoth vid new.now o (record t { spans = t.spans ++ o.spans })
copies_spans vid old new count h o t has =
    let params : Row = whole vid ∷ [] in
    let w = runs_as copy_spans_text params old new schema_5 has.schema _ copy_spans_is.is copy_spans_is.plain count h in
    let done = inserts schema_5 untied_5 11 15 spans3_table.name spans3_table.columns None (1 ∷ 2 ∷ []) ((1 ∷ 2 ∷ []) ∷ []) refl old new has.schema _ params count (record { lets = []; body = copy_spans_query }) w in
    let source = has.rows.second.spans in
    let bare = λ (s : ℕ × Span). Null ∷ span_row s in
    let shown : done.0 ≡ map bare o.spans =
    shows_rows (IsSpanOf vid) old_span_key old_span_row (overlay old.now.trees []) 13 o.spans source copy_spans_query params (λ _. true) (span_with vid) (λ x. refl) (λ x. refl)
    (λ a b. last_key (value_cmp-Int (old_span_key a) (old_span_key b))) done.0 (done.1.answer Null) ∙ ap (map (span_with vid)) (kept_all o.spans)
    ∙ map_on (IsSpanOf vid) (span_with vid) bare (own_span vid) o.spans source.valid in
    let cast : map (λ s. cast_row spans3_table s) done.0 ≡ map bare o.spans = ap (map (λ s. cast_row spans3_table s)) shown ∙ map-map (λ s. cast_row spans3_table s) bare o.spans ∙ map_same (λ s. cast_row spans3_table (bare s)) bare cast_span o.spans in
    let rows = old.now.trees 15 in
    let stored = subst (λ news. StoresUnnumbered IsVendorSpan span_row (put_all rows (numbered Chosen rows news)) (t.spans ++ o.spans)) (sym cast)
    (appends IsVendorSpan span_row o.spans rows t.spans has.rows.spans (all_of (IsSpanOf vid) IsVendorSpan (λ s is. is.valid) o.spans source.valid)) in
    holds_new_spans vid old.now new.now o t _ _ has done.2 stored

pub copies_entries : (vid : ℕ) (old new : State) (count : ℕ) → Executes copy_entries_text (whole vid ∷ []) old new (Ok count) → (o t : Tables) → HoldsBoth vid old.now o t
    → HoldsBoth vid new.now o (record t { entries = t.entries ++ o.entries })
copies_entries vid old new count h o t has =
    let params : Row = whole vid ∷ [] in
    let w = runs_as copy_entries_text params old new schema_5 has.schema _ copy_entries_is.is copy_entries_is.plain count h in
    let done = inserts schema_5 untied_5 12 17 entries3_table.name entries3_table.columns None (1 ∷ 2 ∷ []) ((1 ∷ 2 ∷ []) ∷ []) refl old new has.schema _ params count (record { lets = []; body = copy_entries_query }) w in
    let source = has.rows.second.first.entries in
    let bare = λ (e : Number × Entry). Null ∷ entry_row e in
    let shown : done.0 ≡ map bare o.entries =
    shows_rows (IsEntryOf vid) old_entry_key old_entry_row (overlay old.now.trees []) 9 o.entries source copy_entries_query params (λ _. true) (entry_with vid) (λ x. refl) (λ x. refl)
    (λ a b. last_key (value_cmp-Int (old_entry_key a) (old_entry_key b))) done.0 (done.1.answer Null) ∙ ap (map (entry_with vid)) (kept_all o.entries)
    ∙ map_on (IsEntryOf vid) (entry_with vid) bare (own_entry vid) o.entries source.valid in
    let cast : map (λ s. cast_row entries3_table s) done.0 ≡ map bare o.entries = ap (map (λ s. cast_row entries3_table s)) shown ∙ map-map (λ s. cast_row entries3_table s) bare o.entries ∙ map_same (λ e. cast_row entries3_table (bare e)) bare cast_entry o.entries in
    let rows = old.now.trees 17 in
    let stored = subst (λ news. StoresUnnumbered IsEntry entry_row (put_all rows (numbered Chosen rows news)) (t.entries ++ o.entries)) (sym cast)
    (appends IsEntry entry_row o.entries rows t.entries has.rows.entries (all_of (IsEntryOf vid) IsEntry (λ e is. is.valid) o.entries source.valid)) in
    holds_new_entries vid old.now new.now o t _ _ has done.2 stored

pub copies_petitions : (vid : ℕ) (old new : State) (count : ℕ) → Executes copy_petitions_text (whole vid ∷ []) old new (Ok count) → (o t : Tables) → HoldsBoth vid old.now o t → t.petitions ≡ []
    → HoldsBoth vid new.now o (record t { petitions = o.petitions })
copies_petitions vid old new count h o t has empty =
    let params : Row = whole vid ∷ [] in
    let w = runs_as copy_petitions_text params old new schema_5 has.schema _ copy_petitions_is.is copy_petitions_is.plain count h in
    let done = inserts schema_5 untied_5 13 19 petitions3_table.name petitions3_table.columns (Some 0) (0 ∷ []) [] refl old new has.schema _ params count (record { lets = []; body = copy_petitions_query }) w in
    let source = has.rows.second.first.petitions in
    let shown : done.0 ≡ map petition_row o.petitions =
    shows_rows (IsPetitionOf vid) petition_key old_petition_row (overlay old.now.trees []) 8 o.petitions source copy_petitions_query params (λ _. true) (petition_with vid) (λ x. refl) (λ x. refl)
    (λ a b. last_key (value_cmp-Int (petition_key a) (petition_key b))) done.0 (done.1.answer Null) ∙ ap (map (petition_with vid)) (kept_all o.petitions)
    ∙ map_on (IsPetitionOf vid) (petition_with vid) petition_row (own_petition vid) o.petitions source.valid in
    let cast : map (λ s. cast_row petitions3_table s) done.0 ≡ map petition_row o.petitions =
    ap (map (λ s. cast_row petitions3_table s)) shown ∙ map-map (λ s. cast_row petitions3_table s) petition_row o.petitions ∙ map_same (λ p. cast_row petitions3_table (petition_row p)) petition_row cast_petition o.petitions in
    let none : old.now.trees 19 ≡ [] = has.rows.petitions.rows_are ∙ ap (map petition_row) empty in
    let stored : Stores IsPetition petition_key petition_row (put_all (old.now.trees 19) (numbered Chosen (old.now.trees 19) (map (λ s. cast_row petitions3_table s) done.0))) o.petitions = record {
      rows_are = ap (λ rows. put_all rows (numbered Chosen rows (map (λ s. cast_row petitions3_table s) done.0))) none ∙ ap (λ news. put_all [] (numbered Chosen [] news)) cast
          ∙ fills petition_key petition_row (λ _. refl) o.petitions source.keyed;
      keyed = source.keyed;
      valid = all_of (IsPetitionOf vid) IsPetition (λ p is. is.valid) o.petitions source.valid;
    } in
    holds_new_petitions vid old.now new.now o t _ _ has done.2 stored

-- ---- emptied

pub empties_spans : (vid : ℕ) (old new : State) (count : ℕ) → Executes empty_spans_text [] old new (Ok count) → (o t : Tables) → HoldsBoth vid old.now o t → HoldsBoth vid new.now (record o { spans = [] }) t
empties_spans vid old new count h o t has =
    let w = runs_as empty_spans_text [] old new schema_5 has.schema _ empty_spans_is.is empty_spans_is.plain count h in
    let done = deletes schema_5 untied_5 9 13 spans_table.name spans_table.columns (Some 0) (0 ∷ []) [] refl old new has.schema _ [] count _ w in
    let left = deletes_stored (IsSpanOf vid) old_span_key old_span_row (λ _. refl) (overlay old.now.trees []) 13 o.spans has.rows.second.spans [] [] (λ _. true) (λ _. refl) done.0 (done.1.answer Null) in
    holds_old_spans vid old.now new.now o t _ [] has done.2 (subst (Stores (IsSpanOf vid) old_span_key old_span_row _) (none_left o.spans) left)

pub empties_entries : (vid : ℕ) (old new : State) (count : ℕ) → Executes empty_entries_text [] old new (Ok count) → (o t : Tables) → HoldsBoth vid old.now o t → HoldsBoth vid new.now (record o { entries = [] }) t
empties_entries vid old new count h o t has =
    let w = runs_as empty_entries_text [] old new schema_5 has.schema _ empty_entries_is.is empty_entries_is.plain count h in
    let done = deletes schema_5 untied_5 6 9 entries_table.name entries_table.columns (Some 0) (0 ∷ []) [] refl old new has.schema _ [] count _ w in
    let left = deletes_stored (IsEntryOf vid) old_entry_key old_entry_row (λ _. refl) (overlay old.now.trees []) 9 o.entries has.rows.second.first.entries [] [] (λ _. true) (λ _. refl) done.0 (done.1.answer Null) in
    holds_old_entries vid old.now new.now o t _ [] has done.2 (subst (Stores (IsEntryOf vid) old_entry_key old_entry_row _) (none_left o.entries) left)

pub empties_petitions : (vid : ℕ) (old new : State) (count : ℕ) → Executes empty_petitions_text [] old new (Ok count) → (o t : Tables) → HoldsBoth vid old.now o t → HoldsBoth vid new.now (record o { petitions = [] }) t
empties_petitions vid old new count h o t has =
    let w = runs_as empty_petitions_text [] old new schema_5 has.schema _ empty_petitions_is.is empty_petitions_is.plain count h in
    let done = deletes schema_5 untied_5 5 8 petitions_table.name petitions_table.columns (Some 0) (0 ∷ []) [] refl old new has.schema _ [] count _ w in
    let left = deletes_stored (IsPetitionOf vid) petition_key old_petition_row (λ _. refl) (overlay old.now.trees []) 8 o.petitions has.rows.second.first.petitions [] [] (λ _. true) (λ _. refl) done.0 (done.1.answer Null) in
    holds_old_petitions vid old.now new.now o t _ [] has done.2 (subst (Stores (IsPetitionOf vid) petition_key old_petition_row _) (none_left o.petitions) left)
