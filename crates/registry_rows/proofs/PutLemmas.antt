-- What the statements that insert rows do to the values of the tables.
use Rattle.std.proofs.Common.{ℕ, List, [], ◌∷◌, ◌++◌, Ok, refl, ap}
use Rattle.sqlite.specs.Edit.{with_rowid}
use Rattle.sqlite.specs.Rowids.TheVariants.{Chosen}
use Rattle.sqlite.specs.State.{State, Executes}
use Rattle.sqlite_keyed.specs.Keyed.{insert_by, next_key}
use Rattle.sqlite_keyed.specs.Lists.{delete_where}
use Rattle.usbnum_core.specs.Text.{IsSlug, IsTitle}
use Rattle.usbnum_core.specs.declared.number.Number.{Number}
use Rattle.usbnum_core.specs.declared.number.Span.{Span}
use Rattle.registry_rules.specs.declared.record.Org.{Org}
use Rattle.registry_rules.specs.declared.record.Entry.{Entry}
use Rattle.registry_rules.specs.declared.record.Petition.{Petition}
use Rattle.registry_rules.specs.declared.record.Vendor.{Vendor}
use Rattle.table_laws.proofs.StatementLemmas.{adds_numbered, adds_with_rowids, adds_unnumbered, puts_numbered, puts_unnumbered}
use Rattle.registry_schema.specs.Schema.{schema_5, meta_table, curators_table, licences_table, fixed_table, orgs_table, kept_table, vendors_table, entries3_table, petitions3_table, digests4_table, reasons4_table, opened5_table, closed5_table}
use Rattle.registry_rows.specs.declared.digests.DigestRow.{DigestRow}
use Rattle.registry_rows.specs.declared.kept.KeptRow.{KeptRow}
use Rattle.registry_rows.specs.declared.meta.Meta.{Meta}
use Rattle.registry_rows.specs.Rows.{meta_key, meta_row, meta_shown, IsMeta, name_row, fixed_key, fixed_row, fixed_shown, IsSpan, org_row, IsOrg, kept_row, IsKept, vendor_key, vendor_row, vendor_shown, IsVendor, entry_row, IsEntry, petition_key, petition_row, petition_shown, IsPetition, digest_key, digest_row, digest_shown, IsDigestRow, reason_key, reason_row, reason_shown, IsReason, time_key, time_row, time_shown, IsTimeRow, is_named, is_called, is_kept_under, is_of}
use Rattle.registry_rows.specs.Tables.{Tables, Holds}
use Rattle.registry_rows.proofs.HoldLemmas.{untied, holds_metas, holds_curators, holds_licences, holds_fixed, holds_orgs, holds_kept, holds_vendors, holds_entries, holds_petitions, holds_digests, holds_reasons, holds_opened, holds_closed}
use Rattle.registry_rows.proofs.KeyLemmas.{cast_meta, cast_curator, cast_curator_numbered, cast_licence, cast_licence_numbered, cast_fixed, cast_org, cast_org_numbered, cast_kept, cast_vendor, cast_entry, cast_entry_numbered, cast_petition, cast_digest, cast_reason, cast_opened, cast_closed, curators_shared, licences_shared, orgs_shared, kept_shared, entries_shared}
use Rattle.registry_rows.proofs.PutTexts.{put_meta_text, put_meta_terms, put_meta_is, put_curator_text, put_curator_terms, put_curator_is, put_licence_text, put_licence_terms, put_licence_is, put_fixed_text, put_fixed_terms, put_fixed_is, add_org_text, add_org_is, put_org_text, put_org_terms, put_org_is, put_kept_text, put_kept_terms, put_kept_is, put_vendor_text, put_vendor_terms, put_vendor_is, add_entry_text, add_entry_is, put_entry_text, put_entry_terms, put_entry_is, open_petition_text, open_petition_terms, open_petition_is, put_digest_text, put_digest_terms, put_digest_is, put_reason_text, put_reason_terms, put_reason_is, put_opened_text, put_opened_terms, put_opened_is, put_closed_text, put_closed_terms, put_closed_is}

pub puts_meta : (old new : State) (x : Meta) (count : ℕ) → IsMeta x → Executes put_meta_text (meta_shown x) old new (Ok count) → (t : Tables) → Holds old.now t → Holds new.now (record t { metas = insert_by meta_key t.metas x })
puts_meta old new x count valid h t has =
    let done = puts_numbered schema_5 untied 0 0 meta_table.name meta_table.columns IsMeta refl meta_key meta_row (λ _. refl) put_meta_text put_meta_terms 5 put_meta_is (λ new old. refl) (meta_shown x) x refl
    (λ rows. ap (with_rowid Chosen rows) (cast_meta x)) (cast_meta x) old new has.schema t.metas has.rows.metas valid count h in
    holds_metas old.now new.now t done.0 _ has done.1 done.2

pub puts_fixed : (old new : State) (x : Span) (count : ℕ) → IsSpan x → Executes put_fixed_text (fixed_shown x) old new (Ok count) → (t : Tables) → Holds old.now t → Holds new.now (record t { fixed = insert_by fixed_key t.fixed x })
puts_fixed old new x count valid h t has =
    let done = puts_numbered schema_5 untied 3 5 fixed_table.name fixed_table.columns IsSpan refl fixed_key fixed_row (λ _. refl) put_fixed_text put_fixed_terms 3 put_fixed_is (λ new old. refl) (fixed_shown x) x refl
    (λ rows. ap (with_rowid Chosen rows) (cast_fixed x)) (cast_fixed x) old new has.schema t.fixed has.rows.fixed valid count h in
    holds_fixed old.now new.now t done.0 _ has done.1 done.2

pub puts_vendor : (old new : State) (x : Vendor) (count : ℕ) → IsVendor x → Executes put_vendor_text (vendor_shown x) old new (Ok count) → (t : Tables) → Holds old.now t → Holds new.now (record t { vendors = insert_by vendor_key t.vendors x })
puts_vendor old new x count valid h t has =
    let done = puts_numbered schema_5 untied 10 14 vendors_table.name vendors_table.columns IsVendor refl vendor_key vendor_row (λ _. refl) put_vendor_text put_vendor_terms 3 put_vendor_is (λ new old. refl) (vendor_shown x) x refl
    (λ rows. ap (with_rowid Chosen rows) (cast_vendor x)) (cast_vendor x) old new has.schema t.vendors has.rows.vendors valid count h in
    holds_vendors old.now new.now t done.0 _ has done.1 done.2

pub opens_petition : (old new : State) (x : ℕ × Petition) (count : ℕ) → IsPetition x → Executes open_petition_text (petition_shown x) old new (Ok count) → (t : Tables) → Holds old.now t → Holds new.now (record t { petitions = insert_by petition_key t.petitions x })
opens_petition old new x count valid h t has =
    let done = adds_numbered schema_5 untied 13 19 petitions3_table.name petitions3_table.columns IsPetition refl petition_key petition_row (λ _. refl) open_petition_text open_petition_terms 11 open_petition_is (petition_shown x) x refl
    (λ rows. ap (with_rowid Chosen rows) (cast_petition x)) old new has.schema t.petitions has.rows.petitions valid count h in
    holds_petitions old.now new.now t done.0 _ has done.1 done.2

pub puts_digest : (old new : State) (x : ℕ × DigestRow) (count : ℕ) → IsDigestRow x → Executes put_digest_text (digest_shown x) old new (Ok count) → (t : Tables) → Holds old.now t → Holds new.now (record t { digests = insert_by digest_key t.digests x })
puts_digest old new x count valid h t has =
    let done = adds_numbered schema_5 untied 14 20 digests4_table.name digests4_table.columns IsDigestRow refl digest_key digest_row (λ _. refl) put_digest_text put_digest_terms 4 put_digest_is (digest_shown x) x refl
    (λ rows. ap (with_rowid Chosen rows) (cast_digest x)) old new has.schema t.digests has.rows.digests valid count h in
    holds_digests old.now new.now t done.0 _ has done.1 done.2

pub puts_reason : (old new : State) (x : ℕ × List ℕ) (count : ℕ) → IsReason x → Executes put_reason_text (reason_shown x) old new (Ok count) → (t : Tables) → Holds old.now t → Holds new.now (record t { reasons = insert_by reason_key t.reasons x })
puts_reason old new x count valid h t has =
    let done = adds_numbered schema_5 untied 15 21 reasons4_table.name reasons4_table.columns IsReason refl reason_key reason_row (λ _. refl) put_reason_text put_reason_terms 3 put_reason_is (reason_shown x) x refl
    (λ rows. ap (with_rowid Chosen rows) (cast_reason x)) old new has.schema t.reasons has.rows.reasons valid count h in
    holds_reasons old.now new.now t done.0 _ has done.1 done.2

pub puts_opened : (old new : State) (x : ℕ × List ℕ) (count : ℕ) → IsTimeRow x → Executes put_opened_text (time_shown x) old new (Ok count) → (t : Tables) → Holds old.now t → Holds new.now (record t { opened = insert_by time_key t.opened x })
puts_opened old new x count valid h t has =
    let done = adds_numbered schema_5 untied 16 22 opened5_table.name opened5_table.columns IsTimeRow refl time_key time_row (λ _. refl) put_opened_text put_opened_terms 3 put_opened_is (time_shown x) x refl
    (λ rows. ap (with_rowid Chosen rows) (cast_opened x)) old new has.schema t.opened has.rows.opened valid count h in
    holds_opened old.now new.now t done.0 _ has done.1 done.2

pub puts_closed : (old new : State) (x : ℕ × List ℕ) (count : ℕ) → IsTimeRow x → Executes put_closed_text (time_shown x) old new (Ok count) → (t : Tables) → Holds old.now t → Holds new.now (record t { closed = insert_by time_key t.closed x })
puts_closed old new x count valid h t has =
    let done = adds_numbered schema_5 untied 17 23 closed5_table.name closed5_table.columns IsTimeRow refl time_key time_row (λ _. refl) put_closed_text put_closed_terms 3 put_closed_is (time_shown x) x refl
    (λ rows. ap (with_rowid Chosen rows) (cast_closed x)) old new has.schema t.closed has.rows.closed valid count h in
    holds_closed old.now new.now t done.0 _ has done.1 done.2

pub puts_curator : (old new : State) (x : List ℕ) (count : ℕ) → IsSlug x → Executes put_curator_text (name_row x) old new (Ok count) → (t : Tables) → Holds old.now t
    → Holds new.now (record t { curators = delete_where (λ y. is_named y x) t.curators ++ x ∷ [] })
puts_curator old new x count valid h t has =
    let done = puts_unnumbered schema_5 untied 1 1 curators_table.name curators_table.columns IsSlug (1 ∷ []) refl name_row put_curator_text put_curator_terms 2 put_curator_is (λ y x. is_named y x) curators_shared (name_row x) x refl
    (λ rows. ap (with_rowid Chosen rows) (cast_curator x)) (cast_curator_numbered x) old new has.schema t.curators has.rows.curators valid count h in
    holds_curators old.now new.now t done.0 _ has done.1 done.2

pub puts_licence : (old new : State) (x : List ℕ) (count : ℕ) → IsTitle x → Executes put_licence_text (name_row x) old new (Ok count) → (t : Tables) → Holds old.now t
    → Holds new.now (record t { licences = delete_where (λ y. is_named y x) t.licences ++ x ∷ [] })
puts_licence old new x count valid h t has =
    let done = puts_unnumbered schema_5 untied 2 3 licences_table.name licences_table.columns IsTitle (1 ∷ []) refl name_row put_licence_text put_licence_terms 2 put_licence_is (λ y x. is_named y x) licences_shared (name_row x) x refl
    (λ rows. ap (with_rowid Chosen rows) (cast_licence x)) (cast_licence_numbered x) old new has.schema t.licences has.rows.licences valid count h in
    holds_licences old.now new.now t done.0 _ has done.1 done.2

pub adds_org : (old new : State) (x : Org) (count : ℕ) → IsOrg x → Executes add_org_text (org_row x) old new (Ok count) → (t : Tables) → Holds old.now t
    → Holds new.now (record t { orgs = delete_where (λ y. is_called x.slug y) t.orgs ++ x ∷ [] })
adds_org old new x count valid h t has =
    let done = adds_unnumbered schema_5 untied 4 6 orgs_table.name orgs_table.columns IsOrg (1 ∷ []) refl org_row add_org_text put_org_terms 5 add_org_is (λ y x. is_called x.slug y) orgs_shared (org_row x) x refl
    (λ rows. ap (with_rowid Chosen rows) (cast_org x)) old new has.schema t.orgs has.rows.orgs valid count h in
    holds_orgs old.now new.now t done.0 _ has done.1 done.2

pub puts_org : (old new : State) (x : Org) (count : ℕ) → IsOrg x → Executes put_org_text (org_row x) old new (Ok count) → (t : Tables) → Holds old.now t
    → Holds new.now (record t { orgs = delete_where (λ y. is_called x.slug y) t.orgs ++ x ∷ [] })
puts_org old new x count valid h t has =
    let done = puts_unnumbered schema_5 untied 4 6 orgs_table.name orgs_table.columns IsOrg (1 ∷ []) refl org_row put_org_text put_org_terms 5 put_org_is (λ y x. is_called x.slug y) orgs_shared (org_row x) x refl
    (λ rows. ap (with_rowid Chosen rows) (cast_org x)) (cast_org_numbered x) old new has.schema t.orgs has.rows.orgs valid count h in
    holds_orgs old.now new.now t done.0 _ has done.1 done.2

pub puts_kept : (old new : State) (x : KeptRow) (count : ℕ) → IsKept x → Executes put_kept_text (kept_row x) old new (Ok count) → (t : Tables) → Holds old.now t
    → Holds new.now (record t { kept = delete_where (λ y. is_kept_under x.caller x.key y.1) t.kept ++ (next_key (λ y. y.0) t.kept, x) ∷ [] })
puts_kept old new x count valid h t has =
    let done = adds_with_rowids schema_5 untied 8 11 kept_table.name kept_table.columns IsKept (1 ∷ 2 ∷ []) refl kept_row put_kept_text put_kept_terms 5 put_kept_is (λ y x. is_kept_under x.caller x.key y) kept_shared (kept_row x) x refl
    (λ rows. ap (with_rowid Chosen rows) (cast_kept x)) old new has.schema t.kept has.rows.kept valid count h in
    holds_kept old.now new.now t done.0 _ has done.1 done.2

pub adds_entry : (old new : State) (x : Number × Entry) (count : ℕ) → IsEntry x → Executes add_entry_text (entry_row x) old new (Ok count) → (t : Tables) → Holds old.now t
    → Holds new.now (record t { entries = delete_where (λ y. is_of x.0 y) t.entries ++ x ∷ [] })
adds_entry old new x count valid h t has =
    let done = adds_unnumbered schema_5 untied 12 17 entries3_table.name entries3_table.columns IsEntry (1 ∷ 2 ∷ []) refl entry_row add_entry_text put_entry_terms 9 add_entry_is (λ y x. is_of x.0 y) entries_shared (entry_row x) x refl
    (λ rows. ap (with_rowid Chosen rows) (cast_entry x)) old new has.schema t.entries has.rows.entries valid count h in
    holds_entries old.now new.now t done.0 _ has done.1 done.2

pub puts_entry : (old new : State) (x : Number × Entry) (count : ℕ) → IsEntry x → Executes put_entry_text (entry_row x) old new (Ok count) → (t : Tables) → Holds old.now t
    → Holds new.now (record t { entries = delete_where (λ y. is_of x.0 y) t.entries ++ x ∷ [] })
puts_entry old new x count valid h t has =
    let done = puts_unnumbered schema_5 untied 12 17 entries3_table.name entries3_table.columns IsEntry (1 ∷ 2 ∷ []) refl entry_row put_entry_text put_entry_terms 9 put_entry_is (λ y x. is_of x.0 y) entries_shared (entry_row x) x refl
    (λ rows. ap (with_rowid Chosen rows) (cast_entry x)) (cast_entry_numbered x) old new has.schema t.entries has.rows.entries valid count h in
    holds_entries old.now new.now t done.0 _ has done.1 done.2
