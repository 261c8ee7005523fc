-- A statement that sets the rows of one table does not change the values of the others.
use Rattle.std.proofs.Common.{ℕ, ℤ, List, refl, sym, subst, ◌∙◌}
use Rattle.sqlite.specs.Order.{Row}
use Rattle.sqlite.specs.Effect.{Database}
use Rattle.sqlite_trees.specs.Tree.{Trees}
use Rattle.usbnum_core.specs.Text.{IsSlug, IsTitle}
use Rattle.usbnum_core.specs.declared.number.Number.{Number}
use Rattle.usbnum_core.specs.declared.number.Span.{Span}
use Rattle.registry_rules.specs.declared.record.Org.{Org}
use Rattle.registry_rules.specs.declared.record.Entry.{Entry}
use Rattle.registry_rules.specs.declared.record.Petition.{Petition}
use Rattle.registry_rules.specs.declared.record.Vendor.{Vendor}
use Rattle.table_laws.specs.Stored.{Stores, StoresWithRowids, StoresUnnumbered}
use Rattle.table_laws.proofs.SetLemmas.{IsUntied, Sets, AgreeOn, with_rows, sets_agree}
use Rattle.registry_schema.specs.Schema.{schema_5}
use Rattle.registry_rows.specs.declared.digests.DigestRow.{DigestRow}
use Rattle.registry_rows.specs.declared.kept.KeptRow.{KeptRow}
use Rattle.registry_rows.specs.declared.meta.Meta.{Meta}
use Rattle.registry_rows.specs.Rows.{meta_key, meta_row, IsMeta, name_row, fixed_key, fixed_row, IsSpan, org_row, IsOrg, kept_row, IsKept, vendor_key, vendor_row, IsVendor, span_row, IsVendorSpan, entry_row, IsEntry, petition_key, petition_row, IsPetition, digest_key, digest_row, IsDigestRow, reason_key, reason_row, IsReason, time_key, time_row, IsTimeRow}
use Rattle.registry_rows.specs.Tables.{Tables, AreRows, Holds}

-- the schema has no foreign key action
pub untied : IsUntied schema_5
untied keys tree olds news = refl

-- tables with the same rows have the same values
pub agree : (a b : Trees) (t : Tables) → AgreeOn schema_5.tables a b → AreRows b t → AreRows a t
agree a b t same has = record {
  metas = subst (λ rows. Stores IsMeta meta_key meta_row rows t.metas) (sym same.0) has.metas;
  curators = subst (λ rows. StoresUnnumbered IsSlug name_row rows t.curators) (sym same.1.0) has.curators;
  licences = subst (λ rows. StoresUnnumbered IsTitle name_row rows t.licences) (sym same.1.1.0) has.licences;
  fixed = subst (λ rows. Stores IsSpan fixed_key fixed_row rows t.fixed) (sym same.1.1.1.0) has.fixed;
  orgs = subst (λ rows. StoresUnnumbered IsOrg org_row rows t.orgs) (sym same.1.1.1.1.0) has.orgs;
  no_petitions = same.1.1.1.1.1.0 ∙ has.no_petitions;
  no_entries = same.1.1.1.1.1.1.0 ∙ has.no_entries;
  no_reserved = same.1.1.1.1.1.1.1.0 ∙ has.no_reserved;
  kept = subst (λ rows. StoresWithRowids IsKept kept_row rows t.kept) (sym same.1.1.1.1.1.1.1.1.0) has.kept;
  no_spans = same.1.1.1.1.1.1.1.1.1.0 ∙ has.no_spans;
  vendors = subst (λ rows. Stores IsVendor vendor_key vendor_row rows t.vendors) (sym same.1.1.1.1.1.1.1.1.1.1.0) has.vendors;
  spans = subst (λ rows. StoresUnnumbered IsVendorSpan span_row rows t.spans) (sym same.1.1.1.1.1.1.1.1.1.1.1.0) has.spans;
  entries = subst (λ rows. StoresUnnumbered IsEntry entry_row rows t.entries) (sym same.1.1.1.1.1.1.1.1.1.1.1.1.0) has.entries;
  petitions = subst (λ rows. Stores IsPetition petition_key petition_row rows t.petitions) (sym same.1.1.1.1.1.1.1.1.1.1.1.1.1.0) has.petitions;
  digests = subst (λ rows. Stores IsDigestRow digest_key digest_row rows t.digests) (sym same.1.1.1.1.1.1.1.1.1.1.1.1.1.1.0) has.digests;
  reasons = subst (λ rows. Stores IsReason reason_key reason_row rows t.reasons) (sym same.1.1.1.1.1.1.1.1.1.1.1.1.1.1.1.0) has.reasons;
  opened = subst (λ rows. Stores IsTimeRow time_key time_row rows t.opened) (sym same.1.1.1.1.1.1.1.1.1.1.1.1.1.1.1.1.0) has.opened;
  closed = subst (λ rows. Stores IsTimeRow time_key time_row rows t.closed) (sym same.1.1.1.1.1.1.1.1.1.1.1.1.1.1.1.1.1.0) has.closed;
}

pub holds_metas : (old new : Database) (t : Tables) (rows : List Row) (xs : List (Meta)) → Holds old t → Sets schema_5 0 old new rows → Stores IsMeta meta_key meta_row rows xs → Holds new (record t { metas = xs })
holds_metas old new t rows xs has sets stored = record {
  schema = sets.same_schema;
  sound = sets.sound;
  rows = agree new.trees (with_rows old.trees 0 rows) (record t { metas = xs }) (sets_agree schema_5 0 old new rows sets)
      (record { metas = stored; curators = has.rows.curators; licences = has.rows.licences; fixed = has.rows.fixed; orgs = has.rows.orgs; no_petitions = has.rows.no_petitions; no_entries = has.rows.no_entries; no_reserved = has.rows.no_reserved; kept = has.rows.kept; no_spans = has.rows.no_spans; vendors = has.rows.vendors; spans = has.rows.spans; entries = has.rows.entries; petitions = has.rows.petitions; digests = has.rows.digests; reasons = has.rows.reasons; opened = has.rows.opened; closed = has.rows.closed });
}

pub holds_curators : (old new : Database) (t : Tables) (rows : List Row) (xs : List (List ℕ)) → Holds old t → Sets schema_5 1 old new rows → StoresUnnumbered IsSlug name_row rows xs → Holds new (record t { curators = xs })
holds_curators old new t rows xs has sets stored = record {
  schema = sets.same_schema;
  sound = sets.sound;
  rows = agree new.trees (with_rows old.trees 1 rows) (record t { curators = xs }) (sets_agree schema_5 1 old new rows sets)
      (record { metas = has.rows.metas; curators = stored; licences = has.rows.licences; fixed = has.rows.fixed; orgs = has.rows.orgs; no_petitions = has.rows.no_petitions; no_entries = has.rows.no_entries; no_reserved = has.rows.no_reserved; kept = has.rows.kept; no_spans = has.rows.no_spans; vendors = has.rows.vendors; spans = has.rows.spans; entries = has.rows.entries; petitions = has.rows.petitions; digests = has.rows.digests; reasons = has.rows.reasons; opened = has.rows.opened; closed = has.rows.closed });
}

pub holds_licences : (old new : Database) (t : Tables) (rows : List Row) (xs : List (List ℕ)) → Holds old t → Sets schema_5 3 old new rows → StoresUnnumbered IsTitle name_row rows xs → Holds new (record t { licences = xs })
holds_licences old new t rows xs has sets stored = record {
  schema = sets.same_schema;
  sound = sets.sound;
  rows = agree new.trees (with_rows old.trees 3 rows) (record t { licences = xs }) (sets_agree schema_5 3 old new rows sets)
      (record { metas = has.rows.metas; curators = has.rows.curators; licences = stored; fixed = has.rows.fixed; orgs = has.rows.orgs; no_petitions = has.rows.no_petitions; no_entries = has.rows.no_entries; no_reserved = has.rows.no_reserved; kept = has.rows.kept; no_spans = has.rows.no_spans; vendors = has.rows.vendors; spans = has.rows.spans; entries = has.rows.entries; petitions = has.rows.petitions; digests = has.rows.digests; reasons = has.rows.reasons; opened = has.rows.opened; closed = has.rows.closed });
}

pub holds_fixed : (old new : Database) (t : Tables) (rows : List Row) (xs : List (Span)) → Holds old t → Sets schema_5 5 old new rows → Stores IsSpan fixed_key fixed_row rows xs → Holds new (record t { fixed = xs })
holds_fixed old new t rows xs has sets stored = record {
  schema = sets.same_schema;
  sound = sets.sound;
  rows = agree new.trees (with_rows old.trees 5 rows) (record t { fixed = xs }) (sets_agree schema_5 5 old new rows sets)
      (record { metas = has.rows.metas; curators = has.rows.curators; licences = has.rows.licences; fixed = stored; orgs = has.rows.orgs; no_petitions = has.rows.no_petitions; no_entries = has.rows.no_entries; no_reserved = has.rows.no_reserved; kept = has.rows.kept; no_spans = has.rows.no_spans; vendors = has.rows.vendors; spans = has.rows.spans; entries = has.rows.entries; petitions = has.rows.petitions; digests = has.rows.digests; reasons = has.rows.reasons; opened = has.rows.opened; closed = has.rows.closed });
}

pub holds_orgs : (old new : Database) (t : Tables) (rows : List Row) (xs : List (Org)) → Holds old t → Sets schema_5 6 old new rows → StoresUnnumbered IsOrg org_row rows xs → Holds new (record t { orgs = xs })
holds_orgs old new t rows xs has sets stored = record {
  schema = sets.same_schema;
  sound = sets.sound;
  rows = agree new.trees (with_rows old.trees 6 rows) (record t { orgs = xs }) (sets_agree schema_5 6 old new rows sets)
      (record { metas = has.rows.metas; curators = has.rows.curators; licences = has.rows.licences; fixed = has.rows.fixed; orgs = stored; no_petitions = has.rows.no_petitions; no_entries = has.rows.no_entries; no_reserved = has.rows.no_reserved; kept = has.rows.kept; no_spans = has.rows.no_spans; vendors = has.rows.vendors; spans = has.rows.spans; entries = has.rows.entries; petitions = has.rows.petitions; digests = has.rows.digests; reasons = has.rows.reasons; opened = has.rows.opened; closed = has.rows.closed });
}

pub holds_kept : (old new : Database) (t : Tables) (rows : List Row) (xs : List (ℤ × KeptRow)) → Holds old t → Sets schema_5 11 old new rows → StoresWithRowids IsKept kept_row rows xs → Holds new (record t { kept = xs })
holds_kept old new t rows xs has sets stored = record {
  schema = sets.same_schema;
  sound = sets.sound;
  rows = agree new.trees (with_rows old.trees 11 rows) (record t { kept = xs }) (sets_agree schema_5 11 old new rows sets)
      (record { metas = has.rows.metas; curators = has.rows.curators; licences = has.rows.licences; fixed = has.rows.fixed; orgs = has.rows.orgs; no_petitions = has.rows.no_petitions; no_entries = has.rows.no_entries; no_reserved = has.rows.no_reserved; kept = stored; no_spans = has.rows.no_spans; vendors = has.rows.vendors; spans = has.rows.spans; entries = has.rows.entries; petitions = has.rows.petitions; digests = has.rows.digests; reasons = has.rows.reasons; opened = has.rows.opened; closed = has.rows.closed });
}

pub holds_vendors : (old new : Database) (t : Tables) (rows : List Row) (xs : List (Vendor)) → Holds old t → Sets schema_5 14 old new rows → Stores IsVendor vendor_key vendor_row rows xs → Holds new (record t { vendors = xs })
holds_vendors old new t rows xs has sets stored = record {
  schema = sets.same_schema;
  sound = sets.sound;
  rows = agree new.trees (with_rows old.trees 14 rows) (record t { vendors = xs }) (sets_agree schema_5 14 old new rows sets)
      (record { metas = has.rows.metas; curators = has.rows.curators; licences = has.rows.licences; fixed = has.rows.fixed; orgs = has.rows.orgs; no_petitions = has.rows.no_petitions; no_entries = has.rows.no_entries; no_reserved = has.rows.no_reserved; kept = has.rows.kept; no_spans = has.rows.no_spans; vendors = stored; spans = has.rows.spans; entries = has.rows.entries; petitions = has.rows.petitions; digests = has.rows.digests; reasons = has.rows.reasons; opened = has.rows.opened; closed = has.rows.closed });
}

pub holds_spans : (old new : Database) (t : Tables) (rows : List Row) (xs : List (ℕ × Span)) → Holds old t → Sets schema_5 15 old new rows → StoresUnnumbered IsVendorSpan span_row rows xs → Holds new (record t { spans = xs })
holds_spans old new t rows xs has sets stored = record {
  schema = sets.same_schema;
  sound = sets.sound;
  rows = agree new.trees (with_rows old.trees 15 rows) (record t { spans = xs }) (sets_agree schema_5 15 old new rows sets)
      (record { metas = has.rows.metas; curators = has.rows.curators; licences = has.rows.licences; fixed = has.rows.fixed; orgs = has.rows.orgs; no_petitions = has.rows.no_petitions; no_entries = has.rows.no_entries; no_reserved = has.rows.no_reserved; kept = has.rows.kept; no_spans = has.rows.no_spans; vendors = has.rows.vendors; spans = stored; entries = has.rows.entries; petitions = has.rows.petitions; digests = has.rows.digests; reasons = has.rows.reasons; opened = has.rows.opened; closed = has.rows.closed });
}

pub holds_entries : (old new : Database) (t : Tables) (rows : List Row) (xs : List (Number × Entry)) → Holds old t → Sets schema_5 17 old new rows → StoresUnnumbered IsEntry entry_row rows xs → Holds new (record t { entries = xs })
holds_entries old new t rows xs has sets stored = record {
  schema = sets.same_schema;
  sound = sets.sound;
  rows = agree new.trees (with_rows old.trees 17 rows) (record t { entries = xs }) (sets_agree schema_5 17 old new rows sets)
      (record { metas = has.rows.metas; curators = has.rows.curators; licences = has.rows.licences; fixed = has.rows.fixed; orgs = has.rows.orgs; no_petitions = has.rows.no_petitions; no_entries = has.rows.no_entries; no_reserved = has.rows.no_reserved; kept = has.rows.kept; no_spans = has.rows.no_spans; vendors = has.rows.vendors; spans = has.rows.spans; entries = stored; petitions = has.rows.petitions; digests = has.rows.digests; reasons = has.rows.reasons; opened = has.rows.opened; closed = has.rows.closed });
}

pub holds_petitions : (old new : Database) (t : Tables) (rows : List Row) (xs : List (ℕ × Petition)) → Holds old t → Sets schema_5 19 old new rows → Stores IsPetition petition_key petition_row rows xs → Holds new (record t { petitions = xs })
holds_petitions old new t rows xs has sets stored = record {
  schema = sets.same_schema;
  sound = sets.sound;
  rows = agree new.trees (with_rows old.trees 19 rows) (record t { petitions = xs }) (sets_agree schema_5 19 old new rows sets)
      (record { metas = has.rows.metas; curators = has.rows.curators; licences = has.rows.licences; fixed = has.rows.fixed; orgs = has.rows.orgs; no_petitions = has.rows.no_petitions; no_entries = has.rows.no_entries; no_reserved = has.rows.no_reserved; kept = has.rows.kept; no_spans = has.rows.no_spans; vendors = has.rows.vendors; spans = has.rows.spans; entries = has.rows.entries; petitions = stored; digests = has.rows.digests; reasons = has.rows.reasons; opened = has.rows.opened; closed = has.rows.closed });
}

pub holds_digests : (old new : Database) (t : Tables) (rows : List Row) (xs : List (ℕ × DigestRow)) → Holds old t → Sets schema_5 20 old new rows → Stores IsDigestRow digest_key digest_row rows xs → Holds new (record t { digests = xs })
holds_digests old new t rows xs has sets stored = record {
  schema = sets.same_schema;
  sound = sets.sound;
  rows = agree new.trees (with_rows old.trees 20 rows) (record t { digests = xs }) (sets_agree schema_5 20 old new rows sets)
      (record { metas = has.rows.metas; curators = has.rows.curators; licences = has.rows.licences; fixed = has.rows.fixed; orgs = has.rows.orgs; no_petitions = has.rows.no_petitions; no_entries = has.rows.no_entries; no_reserved = has.rows.no_reserved; kept = has.rows.kept; no_spans = has.rows.no_spans; vendors = has.rows.vendors; spans = has.rows.spans; entries = has.rows.entries; petitions = has.rows.petitions; digests = stored; reasons = has.rows.reasons; opened = has.rows.opened; closed = has.rows.closed });
}

pub holds_reasons : (old new : Database) (t : Tables) (rows : List Row) (xs : List (ℕ × List ℕ)) → Holds old t → Sets schema_5 21 old new rows → Stores IsReason reason_key reason_row rows xs → Holds new (record t { reasons = xs })
holds_reasons old new t rows xs has sets stored = record {
  schema = sets.same_schema;
  sound = sets.sound;
  rows = agree new.trees (with_rows old.trees 21 rows) (record t { reasons = xs }) (sets_agree schema_5 21 old new rows sets)
      (record { metas = has.rows.metas; curators = has.rows.curators; licences = has.rows.licences; fixed = has.rows.fixed; orgs = has.rows.orgs; no_petitions = has.rows.no_petitions; no_entries = has.rows.no_entries; no_reserved = has.rows.no_reserved; kept = has.rows.kept; no_spans = has.rows.no_spans; vendors = has.rows.vendors; spans = has.rows.spans; entries = has.rows.entries; petitions = has.rows.petitions; digests = has.rows.digests; reasons = stored; opened = has.rows.opened; closed = has.rows.closed });
}

pub holds_opened : (old new : Database) (t : Tables) (rows : List Row) (xs : List (ℕ × List ℕ)) → Holds old t → Sets schema_5 22 old new rows → Stores IsTimeRow time_key time_row rows xs → Holds new (record t { opened = xs })
holds_opened old new t rows xs has sets stored = record {
  schema = sets.same_schema;
  sound = sets.sound;
  rows = agree new.trees (with_rows old.trees 22 rows) (record t { opened = xs }) (sets_agree schema_5 22 old new rows sets)
      (record { metas = has.rows.metas; curators = has.rows.curators; licences = has.rows.licences; fixed = has.rows.fixed; orgs = has.rows.orgs; no_petitions = has.rows.no_petitions; no_entries = has.rows.no_entries; no_reserved = has.rows.no_reserved; kept = has.rows.kept; no_spans = has.rows.no_spans; vendors = has.rows.vendors; spans = has.rows.spans; entries = has.rows.entries; petitions = has.rows.petitions; digests = has.rows.digests; reasons = has.rows.reasons; opened = stored; closed = has.rows.closed });
}

pub holds_closed : (old new : Database) (t : Tables) (rows : List Row) (xs : List (ℕ × List ℕ)) → Holds old t → Sets schema_5 23 old new rows → Stores IsTimeRow time_key time_row rows xs → Holds new (record t { closed = xs })
holds_closed old new t rows xs has sets stored = record {
  schema = sets.same_schema;
  sound = sets.sound;
  rows = agree new.trees (with_rows old.trees 23 rows) (record t { closed = xs }) (sets_agree schema_5 23 old new rows sets)
      (record { metas = has.rows.metas; curators = has.rows.curators; licences = has.rows.licences; fixed = has.rows.fixed; orgs = has.rows.orgs; no_petitions = has.rows.no_petitions; no_entries = has.rows.no_entries; no_reserved = has.rows.no_reserved; kept = has.rows.kept; no_spans = has.rows.no_spans; vendors = has.rows.vendors; spans = has.rows.spans; entries = has.rows.entries; petitions = has.rows.petitions; digests = has.rows.digests; reasons = has.rows.reasons; opened = has.rows.opened; closed = stored });
}
