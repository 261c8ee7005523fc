-- A database in the middle of a step, after a statement that set the rows of one table.
use Rattle.std.proofs.Common.{ℕ, List}
use Rattle.sqlite.specs.Order.{Row}
use Rattle.sqlite.specs.Effect.{Database}
use Rattle.usbnum_core.specs.Number.{IsId}
use Rattle.usbnum_core.specs.declared.number.Number.{Number}
use Rattle.usbnum_core.specs.declared.number.Span.{Span}
use Rattle.registry_rules.specs.declared.record.Entry.{Entry}
use Rattle.registry_rules.specs.declared.record.Petition.{Petition}
use Rattle.table_laws.specs.Stored.{Stores, StoresUnnumbered}
use Rattle.table_laws.proofs.SetLemmas.{Sets, with_rows, sets_agree}
use Rattle.registry_schema.specs.Schema.{schema_2, schema_5}
use Rattle.registry_rows.specs.declared.meta.Meta.{Meta}
use Rattle.registry_rows.specs.Rows.{meta_key, meta_row, IsMeta, span_row, IsVendorSpan, entry_row, IsEntry, petition_key, petition_row, IsPetition}
use Rattle.registry_rows.specs.Tables.{Tables}
use Rattle.registry_old_rows.specs.Old.{number_key, number_row, old_span_key, old_span_row, old_entry_key, old_entry_row, old_petition_row, IsSpanOf, IsEntryOf, IsPetitionOf}
use Rattle.registry_old_rows.specs.Between.{HoldsSecond, HoldsBoth}
use Rattle.registry_old_rows.proofs.AgreeLemmas.{agree_2, agree_5}

pub holds_new_spans : (vid : ℕ) (old new : Database) (o t : Tables) (rows : List Row) (xs : List (ℕ × Span)) → HoldsBoth vid old o t → Sets schema_5 15 old new rows → StoresUnnumbered IsVendorSpan span_row rows xs → HoldsBoth vid new o (record t { spans = xs })
holds_new_spans vid old new o t rows xs has sets stored = record {
  schema = sets.same_schema;
  sound = sets.sound;
  rows = agree_5 vid new.trees (with_rows old.trees 15 rows) o (record t { spans = xs }) (sets_agree schema_5 15 old new rows sets)
      (record { second = record { first = record { lasting = record { metas = has.rows.second.first.lasting.metas; curators = has.rows.second.first.lasting.curators; licences = has.rows.second.first.lasting.licences; fixed = has.rows.second.first.lasting.fixed; orgs = has.rows.second.first.lasting.orgs; kept = has.rows.second.first.lasting.kept }; petitions = has.rows.second.first.petitions; entries = has.rows.second.first.entries; reserved = has.rows.second.first.reserved }; spans = has.rows.second.spans }; vendors = has.rows.vendors; spans = stored; entries = has.rows.entries; petitions = has.rows.petitions; digests = has.rows.digests; reasons = has.rows.reasons; opened = has.rows.opened; closed = has.rows.closed });
}

pub holds_old_spans : (vid : ℕ) (old new : Database) (o t : Tables) (rows : List Row) (xs : List (ℕ × Span)) → HoldsBoth vid old o t → Sets schema_5 13 old new rows → Stores (IsSpanOf vid) old_span_key old_span_row rows xs → HoldsBoth vid new (record o { spans = xs }) t
holds_old_spans vid old new o t rows xs has sets stored = record {
  schema = sets.same_schema;
  sound = sets.sound;
  rows = agree_5 vid new.trees (with_rows old.trees 13 rows) (record o { spans = xs }) t (sets_agree schema_5 13 old new rows sets)
      (record { second = record { first = record { lasting = record { metas = has.rows.second.first.lasting.metas; curators = has.rows.second.first.lasting.curators; licences = has.rows.second.first.lasting.licences; fixed = has.rows.second.first.lasting.fixed; orgs = has.rows.second.first.lasting.orgs; kept = has.rows.second.first.lasting.kept }; petitions = has.rows.second.first.petitions; entries = has.rows.second.first.entries; reserved = has.rows.second.first.reserved }; spans = stored }; vendors = has.rows.vendors; spans = has.rows.spans; entries = has.rows.entries; petitions = has.rows.petitions; digests = has.rows.digests; reasons = has.rows.reasons; opened = has.rows.opened; closed = has.rows.closed });
}

pub holds_new_entries : (vid : ℕ) (old new : Database) (o t : Tables) (rows : List Row) (xs : List (Number × Entry)) → HoldsBoth vid old o t → Sets schema_5 17 old new rows → StoresUnnumbered IsEntry entry_row rows xs → HoldsBoth vid new o (record t { entries = xs })
holds_new_entries vid old new o t rows xs has sets stored = record {
  schema = sets.same_schema;
  sound = sets.sound;
  rows = agree_5 vid new.trees (with_rows old.trees 17 rows) o (record t { entries = xs }) (sets_agree schema_5 17 old new rows sets)
      (record { second = record { first = record { lasting = record { metas = has.rows.second.first.lasting.metas; curators = has.rows.second.first.lasting.curators; licences = has.rows.second.first.lasting.licences; fixed = has.rows.second.first.lasting.fixed; orgs = has.rows.second.first.lasting.orgs; kept = has.rows.second.first.lasting.kept }; petitions = has.rows.second.first.petitions; entries = has.rows.second.first.entries; reserved = has.rows.second.first.reserved }; spans = has.rows.second.spans }; vendors = has.rows.vendors; spans = has.rows.spans; entries = stored; petitions = has.rows.petitions; digests = has.rows.digests; reasons = has.rows.reasons; opened = has.rows.opened; closed = has.rows.closed });
}

pub holds_old_entries : (vid : ℕ) (old new : Database) (o t : Tables) (rows : List Row) (xs : List (Number × Entry)) → HoldsBoth vid old o t → Sets schema_5 9 old new rows → Stores (IsEntryOf vid) old_entry_key old_entry_row rows xs → HoldsBoth vid new (record o { entries = xs }) t
holds_old_entries vid old new o t rows xs has sets stored = record {
  schema = sets.same_schema;
  sound = sets.sound;
  rows = agree_5 vid new.trees (with_rows old.trees 9 rows) (record o { entries = xs }) t (sets_agree schema_5 9 old new rows sets)
      (record { second = record { first = record { lasting = record { metas = has.rows.second.first.lasting.metas; curators = has.rows.second.first.lasting.curators; licences = has.rows.second.first.lasting.licences; fixed = has.rows.second.first.lasting.fixed; orgs = has.rows.second.first.lasting.orgs; kept = has.rows.second.first.lasting.kept }; petitions = has.rows.second.first.petitions; entries = stored; reserved = has.rows.second.first.reserved }; spans = has.rows.second.spans }; vendors = has.rows.vendors; spans = has.rows.spans; entries = has.rows.entries; petitions = has.rows.petitions; digests = has.rows.digests; reasons = has.rows.reasons; opened = has.rows.opened; closed = has.rows.closed });
}

pub holds_new_petitions : (vid : ℕ) (old new : Database) (o t : Tables) (rows : List Row) (xs : List (ℕ × Petition)) → HoldsBoth vid old o t → Sets schema_5 19 old new rows → Stores IsPetition petition_key petition_row rows xs → HoldsBoth vid new o (record t { petitions = xs })
holds_new_petitions vid old new o t rows xs has sets stored = record {
  schema = sets.same_schema;
  sound = sets.sound;
  rows = agree_5 vid new.trees (with_rows old.trees 19 rows) o (record t { petitions = xs }) (sets_agree schema_5 19 old new rows sets)
      (record { second = record { first = record { lasting = record { metas = has.rows.second.first.lasting.metas; curators = has.rows.second.first.lasting.curators; licences = has.rows.second.first.lasting.licences; fixed = has.rows.second.first.lasting.fixed; orgs = has.rows.second.first.lasting.orgs; kept = has.rows.second.first.lasting.kept }; petitions = has.rows.second.first.petitions; entries = has.rows.second.first.entries; reserved = has.rows.second.first.reserved }; spans = has.rows.second.spans }; vendors = has.rows.vendors; spans = has.rows.spans; entries = has.rows.entries; petitions = stored; digests = has.rows.digests; reasons = has.rows.reasons; opened = has.rows.opened; closed = has.rows.closed });
}

pub holds_old_petitions : (vid : ℕ) (old new : Database) (o t : Tables) (rows : List Row) (xs : List (ℕ × Petition)) → HoldsBoth vid old o t → Sets schema_5 8 old new rows → Stores (IsPetitionOf vid) petition_key old_petition_row rows xs → HoldsBoth vid new (record o { petitions = xs }) t
holds_old_petitions vid old new o t rows xs has sets stored = record {
  schema = sets.same_schema;
  sound = sets.sound;
  rows = agree_5 vid new.trees (with_rows old.trees 8 rows) (record o { petitions = xs }) t (sets_agree schema_5 8 old new rows sets)
      (record { second = record { first = record { lasting = record { metas = has.rows.second.first.lasting.metas; curators = has.rows.second.first.lasting.curators; licences = has.rows.second.first.lasting.licences; fixed = has.rows.second.first.lasting.fixed; orgs = has.rows.second.first.lasting.orgs; kept = has.rows.second.first.lasting.kept }; petitions = stored; entries = has.rows.second.first.entries; reserved = has.rows.second.first.reserved }; spans = has.rows.second.spans }; vendors = has.rows.vendors; spans = has.rows.spans; entries = has.rows.entries; petitions = has.rows.petitions; digests = has.rows.digests; reasons = has.rows.reasons; opened = has.rows.opened; closed = has.rows.closed });
}

pub holds_second_metas : (vid : ℕ) (old new : Database) (t : Tables) (numbers : List ℕ) (rows : List Row) (xs : List (Meta)) → HoldsSecond vid old t numbers → Sets schema_2 0 old new rows → Stores IsMeta meta_key meta_row rows xs → HoldsSecond vid new (record t { metas = xs }) numbers
holds_second_metas vid old new t numbers rows xs has sets stored = record {
  schema = sets.same_schema;
  sound = sets.sound;
  rows = agree_2 vid new.trees (with_rows old.trees 0 rows) (record t { metas = xs }) numbers (sets_agree schema_2 0 old new rows sets)
      (record { first = record { lasting = record { metas = stored; curators = has.rows.first.lasting.curators; licences = has.rows.first.lasting.licences; fixed = has.rows.first.lasting.fixed; orgs = has.rows.first.lasting.orgs; kept = has.rows.first.lasting.kept }; petitions = has.rows.first.petitions; entries = has.rows.first.entries; reserved = has.rows.first.reserved }; spans = has.rows.spans });
}

pub holds_second_spans : (vid : ℕ) (old new : Database) (t : Tables) (numbers : List ℕ) (rows : List Row) (xs : List (ℕ × Span)) → HoldsSecond vid old t numbers → Sets schema_2 13 old new rows → Stores (IsSpanOf vid) old_span_key old_span_row rows xs → HoldsSecond vid new (record t { spans = xs }) numbers
holds_second_spans vid old new t numbers rows xs has sets stored = record {
  schema = sets.same_schema;
  sound = sets.sound;
  rows = agree_2 vid new.trees (with_rows old.trees 13 rows) (record t { spans = xs }) numbers (sets_agree schema_2 13 old new rows sets)
      (record { first = record { lasting = record { metas = has.rows.first.lasting.metas; curators = has.rows.first.lasting.curators; licences = has.rows.first.lasting.licences; fixed = has.rows.first.lasting.fixed; orgs = has.rows.first.lasting.orgs; kept = has.rows.first.lasting.kept }; petitions = has.rows.first.petitions; entries = has.rows.first.entries; reserved = has.rows.first.reserved }; spans = stored });
}

pub holds_second_reserved : (vid : ℕ) (old new : Database) (t : Tables) (numbers : List ℕ) (rows : List Row) (xs : List (ℕ)) → HoldsSecond vid old t numbers → Sets schema_2 10 old new rows → Stores IsId number_key number_row rows xs → HoldsSecond vid new t xs
holds_second_reserved vid old new t numbers rows xs has sets stored = record {
  schema = sets.same_schema;
  sound = sets.sound;
  rows = agree_2 vid new.trees (with_rows old.trees 10 rows) t xs (sets_agree schema_2 10 old new rows sets)
      (record { first = record { lasting = record { metas = has.rows.first.lasting.metas; curators = has.rows.first.lasting.curators; licences = has.rows.first.lasting.licences; fixed = has.rows.first.lasting.fixed; orgs = has.rows.first.lasting.orgs; kept = has.rows.first.lasting.kept }; petitions = has.rows.first.petitions; entries = has.rows.first.entries; reserved = stored }; spans = has.rows.spans });
}
