-- A statement that sets the rows of one table does not change the values of the others.
use Rattle.std.proofs.Common.{ℕ, List, [], refl, sym, subst, ◌∙◌}
use Rattle.sqlite_trees.specs.Tree.{Trees}
use Rattle.usbnum_core.specs.Number.{IsId}
use Rattle.usbnum_core.specs.Text.{IsSlug, IsTitle}
use Rattle.table_laws.specs.Stored.{Stores, StoresWithRowids, StoresUnnumbered}
use Rattle.table_laws.proofs.SetLemmas.{IsUntied, AgreeOn}
use Rattle.registry_schema.specs.Schema.{schema_1, schema_2, schema_3, schema_4, schema_5}
use Rattle.registry_rows.specs.Rows.{meta_key, meta_row, IsMeta, name_row, fixed_key, fixed_row, IsSpan, org_row, IsOrg, kept_row, IsKept, vendor_key, vendor_row, IsVendor, span_row, IsVendorSpan, entry_row, IsEntry, petition_key, petition_row, IsPetition, digest_key, digest_row, IsDigestRow, reason_key, reason_row, IsReason, time_key, time_row, IsTimeRow}
use Rattle.registry_rows.specs.Tables.{Tables}
use Rattle.registry_old_rows.specs.Old.{number_key, number_row, old_span_key, old_span_row, old_entry_key, old_entry_row, old_petition_row, IsSpanOf, IsEntryOf, IsPetitionOf, AreLasting, AreFirst, AreSecond, AreThird, AreFourth}
use Rattle.registry_old_rows.specs.Between.{AreBoth}

-- the schema has no foreign key action
pub untied_2 : IsUntied schema_2
untied_2 keys tree olds news = refl

pub untied_5 : IsUntied schema_5
untied_5 keys tree olds news = refl

-- tables with the same rows have the same values
agree_lasting : (a b : Trees) (t : Tables) → AgreeOn schema_1.tables a b → AreLasting b t → AreLasting a t
agree_lasting a b t same has = record {
  metas = subst (λ rows. Stores IsMeta meta_key meta_row rows t.metas) (sym same.0) has.metas;
  curators = subst (λ rows. StoresUnnumbered IsSlug name_row rows t.curators) (sym same.1.0) has.curators;
  licences = subst (λ rows. StoresUnnumbered IsTitle name_row rows t.licences) (sym same.1.1.0) has.licences;
  fixed = subst (λ rows. Stores IsSpan fixed_key fixed_row rows t.fixed) (sym same.1.1.1.0) has.fixed;
  orgs = subst (λ rows. StoresUnnumbered IsOrg org_row rows t.orgs) (sym same.1.1.1.1.0) has.orgs;
  kept = subst (λ rows. StoresWithRowids IsKept kept_row rows t.kept) (sym same.1.1.1.1.1.1.1.1.0) has.kept;
}

pub agree_1 : (vid : ℕ) (a b : Trees) (t : Tables) (numbers : List ℕ) → AgreeOn schema_1.tables a b → AreFirst vid b t numbers → AreFirst vid a t numbers
agree_1 vid a b t numbers same has = record {
  lasting = agree_lasting a b t same has.lasting;
  petitions = subst (λ rows. Stores (IsPetitionOf vid) petition_key old_petition_row rows t.petitions) (sym same.1.1.1.1.1.0) has.petitions;
  entries = subst (λ rows. Stores (IsEntryOf vid) old_entry_key old_entry_row rows t.entries) (sym same.1.1.1.1.1.1.0) has.entries;
  reserved = subst (λ rows. Stores IsId number_key number_row rows numbers) (sym same.1.1.1.1.1.1.1.0) has.reserved;
}

first_of_second : (a b : Trees) → AgreeOn schema_2.tables a b → AgreeOn schema_1.tables a b
first_of_second a b h = (h.0, (h.1.0, (h.1.1.0, (h.1.1.1.0, (h.1.1.1.1.0, (h.1.1.1.1.1.0, (h.1.1.1.1.1.1.0, (h.1.1.1.1.1.1.1.0, (h.1.1.1.1.1.1.1.1.0, tt)))))))))

pub agree_2 : (vid : ℕ) (a b : Trees) (t : Tables) (numbers : List ℕ) → AgreeOn schema_2.tables a b → AreSecond vid b t numbers → AreSecond vid a t numbers
agree_2 vid a b t numbers same has = record {
  first = agree_1 vid a b t numbers (first_of_second a b same) has.first;
  spans = subst (λ rows. Stores (IsSpanOf vid) old_span_key old_span_row rows t.spans) (sym same.1.1.1.1.1.1.1.1.1.0) has.spans;
}

second_of_fifth : (a b : Trees) → AgreeOn schema_5.tables a b → AgreeOn schema_2.tables a b
second_of_fifth a b h = (h.0, (h.1.0, (h.1.1.0, (h.1.1.1.0, (h.1.1.1.1.0, (h.1.1.1.1.1.0, (h.1.1.1.1.1.1.0, (h.1.1.1.1.1.1.1.0, (h.1.1.1.1.1.1.1.1.0, (h.1.1.1.1.1.1.1.1.1.0, tt))))))))))

pub agree_5 : (vid : ℕ) (a b : Trees) (o t : Tables) → AgreeOn schema_5.tables a b → AreBoth vid b o t → AreBoth vid a o t
agree_5 vid a b o t same has = record {
  second = agree_2 vid a b o [] (second_of_fifth a b same) has.second;
  vendors = subst (λ rows. Stores IsVendor vendor_key vendor_row rows t.vendors) (sym same.1.1.1.1.1.1.1.1.1.1.0) has.vendors;
  spans = subst (λ rows. StoresUnnumbered IsVendorSpan span_row rows t.spans) (sym same.1.1.1.1.1.1.1.1.1.1.1.0) has.spans;
  entries = subst (λ rows. StoresUnnumbered IsEntry entry_row rows t.entries) (sym same.1.1.1.1.1.1.1.1.1.1.1.1.0) has.entries;
  petitions = subst (λ rows. Stores IsPetition petition_key petition_row rows t.petitions) (sym same.1.1.1.1.1.1.1.1.1.1.1.1.1.0) has.petitions;
  digests = subst (λ rows. Stores IsDigestRow digest_key digest_row rows t.digests) (sym same.1.1.1.1.1.1.1.1.1.1.1.1.1.1.0) has.digests;
  reasons = subst (λ rows. Stores IsReason reason_key reason_row rows t.reasons) (sym same.1.1.1.1.1.1.1.1.1.1.1.1.1.1.1.0) has.reasons;
  opened = subst (λ rows. Stores IsTimeRow time_key time_row rows t.opened) (sym same.1.1.1.1.1.1.1.1.1.1.1.1.1.1.1.1.0) has.opened;
  closed = subst (λ rows. Stores IsTimeRow time_key time_row rows t.closed) (sym same.1.1.1.1.1.1.1.1.1.1.1.1.1.1.1.1.1.0) has.closed;
}

first_of_third : (a b : Trees) → AgreeOn schema_3.tables a b → AgreeOn schema_1.tables a b
first_of_third a b h = (h.0, (h.1.0, (h.1.1.0, (h.1.1.1.0, (h.1.1.1.1.0, (h.1.1.1.1.1.0, (h.1.1.1.1.1.1.0, (h.1.1.1.1.1.1.1.0, (h.1.1.1.1.1.1.1.1.0, tt)))))))))

pub agree_3 : (a b : Trees) (t : Tables) → AgreeOn schema_3.tables a b → AreThird b t → AreThird a t
agree_3 a b t same has = record {
  lasting = agree_lasting a b t (first_of_third a b same) has.lasting;
  no_petitions = same.1.1.1.1.1.0 ∙ has.no_petitions;
  no_entries = same.1.1.1.1.1.1.0 ∙ has.no_entries;
  no_reserved = same.1.1.1.1.1.1.1.0 ∙ has.no_reserved;
  no_spans = same.1.1.1.1.1.1.1.1.1.0 ∙ has.no_spans;
  vendors = subst (λ rows. Stores IsVendor vendor_key vendor_row rows t.vendors) (sym same.1.1.1.1.1.1.1.1.1.1.0) has.vendors;
  spans = subst (λ rows. StoresUnnumbered IsVendorSpan span_row rows t.spans) (sym same.1.1.1.1.1.1.1.1.1.1.1.0) has.spans;
  entries = subst (λ rows. StoresUnnumbered IsEntry entry_row rows t.entries) (sym same.1.1.1.1.1.1.1.1.1.1.1.1.0) has.entries;
  petitions = subst (λ rows. Stores IsPetition petition_key petition_row rows t.petitions) (sym same.1.1.1.1.1.1.1.1.1.1.1.1.1.0) has.petitions;
}

third_of_fourth : (a b : Trees) → AgreeOn schema_4.tables a b → AgreeOn schema_3.tables a b
third_of_fourth a b h = (h.0, (h.1.0, (h.1.1.0, (h.1.1.1.0, (h.1.1.1.1.0, (h.1.1.1.1.1.0, (h.1.1.1.1.1.1.0, (h.1.1.1.1.1.1.1.0, (h.1.1.1.1.1.1.1.1.0, (h.1.1.1.1.1.1.1.1.1.0, (h.1.1.1.1.1.1.1.1.1.1.0, (h.1.1.1.1.1.1.1.1.1.1.1.0, (h.1.1.1.1.1.1.1.1.1.1.1.1.0, (h.1.1.1.1.1.1.1.1.1.1.1.1.1.0, tt))))))))))))))

pub agree_4 : (a b : Trees) (t : Tables) → AgreeOn schema_4.tables a b → AreFourth b t → AreFourth a t
agree_4 a b t same has = record {
  third = agree_3 a b t (third_of_fourth a b same) has.third;
  digests = subst (λ rows. Stores IsDigestRow digest_key digest_row rows t.digests) (sym same.1.1.1.1.1.1.1.1.1.1.1.1.1.1.0) has.digests;
  reasons = subst (λ rows. Stores IsReason reason_key reason_row rows t.reasons) (sym same.1.1.1.1.1.1.1.1.1.1.1.1.1.1.1.0) has.reasons;
}
