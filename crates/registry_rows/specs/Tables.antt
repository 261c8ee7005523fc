-- The tables of a store as lists of values.
use Rattle.std.specs.Prelude.{◌≡◌, ℕ, ℤ, List, [], map, filter}
use Rattle.sqlite.specs.Effect.{Database}
use Rattle.sqlite_trees.specs.Tree.{Trees}
use Rattle.sqlite_catalog.specs.Listing.{IsSound}
use Rattle.usbnum_core.specs.Text.{IsSlug, IsTitle}
use Rattle.usbnum_core.specs.declared.number.Number.{Number}
use Rattle.usbnum_core.specs.declared.number.Span.{Span}
use Rattle.registry_rules.specs.declared.record.Org.{Org}
use Rattle.registry_rules.specs.declared.record.Entry.{Entry}
use Rattle.registry_rules.specs.declared.record.Petition.{Petition}
use Rattle.registry_rules.specs.declared.record.Vendor.{Vendor}
use Rattle.table_laws.specs.Making.{HasTables}
use Rattle.table_laws.specs.Stored.{Stores, StoresWithRowids, StoresUnnumbered}
use Rattle.registry_schema.specs.Texts.{texts_5}
use Rattle.registry_schema.specs.Schema.{schema_5}
use Rattle.registry_schema.specs.Trees.{meta_tree, curators_tree, licences_tree, fixed_tree, orgs_tree, petitions_tree, entries_tree, reserved_tree, kept_tree, spans_tree, vendors_tree, spans3_tree, entries3_tree, petitions3_tree, digests4_tree, reasons4_tree, opened5_tree, closed5_tree}
use Rattle.registry_rows.specs.declared.digests.DigestRow.{DigestRow}
use Rattle.registry_rows.specs.declared.kept.KeptRow.{KeptRow}
use Rattle.registry_rows.specs.declared.meta.Meta.{Meta}
use Rattle.registry_rows.specs.Rows.{meta_key, meta_row, IsMeta, name_row, fixed_key, fixed_row, IsSpan, org_row, IsOrg, kept_row, IsKept, is_after, vendor_key, vendor_row, IsVendor, span_row, IsVendorSpan, entry_row, IsEntry, petition_key, petition_row, IsPetition, digest_key, digest_row, IsDigestRow, reason_key, reason_row, IsReason, time_key, time_row, IsTimeRow}

-- The values of the tables: in the order of their keys if the key is the rowid, otherwise in the order of insertion. The
-- kept replies have the rowids of their rows beside them.
pub record Tables : Type 0 where
  pub metas : List Meta
  pub curators : List (List ℕ)
  pub licences : List (List ℕ)
  pub fixed : List Span
  pub orgs : List Org
  pub kept : List (ℤ × KeptRow)
  pub vendors : List Vendor
  pub spans : List (ℕ × Span)
  pub entries : List (Number × Entry)
  pub petitions : List (ℕ × Petition)
  pub digests : List (ℕ × DigestRow)
  pub reasons : List (ℕ × List ℕ)
  pub opened : List (ℕ × List ℕ)
  pub closed : List (ℕ × List ℕ)

-- the kept replies without the rowids
abbrev pub replies : Tables → List KeptRow
replies t = map (λ k. k.1) t.kept

-- those whose rowid is greater than the number
abbrev pub replies_after : ℕ → Tables → List KeptRow
replies_after n t = map (λ k. k.1) (filter (is_after n) t.kept)

-- the rows of each table store these values, and the tables of older schemas that were replaced are empty
pub record AreRows (db : Trees) (t : Tables) : Type 0 where
  pub metas : Stores IsMeta meta_key meta_row (db meta_tree) t.metas
  pub curators : StoresUnnumbered IsSlug name_row (db curators_tree) t.curators
  pub licences : StoresUnnumbered IsTitle name_row (db licences_tree) t.licences
  pub fixed : Stores IsSpan fixed_key fixed_row (db fixed_tree) t.fixed
  pub orgs : StoresUnnumbered IsOrg org_row (db orgs_tree) t.orgs
  pub no_petitions : db petitions_tree ≡ []
  pub no_entries : db entries_tree ≡ []
  pub no_reserved : db reserved_tree ≡ []
  pub kept : StoresWithRowids IsKept kept_row (db kept_tree) t.kept
  pub no_spans : db spans_tree ≡ []
  pub vendors : Stores IsVendor vendor_key vendor_row (db vendors_tree) t.vendors
  pub spans : StoresUnnumbered IsVendorSpan span_row (db spans3_tree) t.spans
  pub entries : StoresUnnumbered IsEntry entry_row (db entries3_tree) t.entries
  pub petitions : Stores IsPetition petition_key petition_row (db petitions3_tree) t.petitions
  pub digests : Stores IsDigestRow digest_key digest_row (db digests4_tree) t.digests
  pub reasons : Stores IsReason reason_key reason_row (db reasons4_tree) t.reasons
  pub opened : Stores IsTimeRow time_key time_row (db opened5_tree) t.opened
  pub closed : Stores IsTimeRow time_key time_row (db closed5_tree) t.closed

-- the trees have exactly the tables of the fifth schema, with these rows
pub record HasRows (db : Trees) (t : Tables) : Type 0 where
  pub has : HasTables texts_5 db
  pub rows : AreRows db t

-- the same for a database whose schema is known
pub record Holds (db : Database) (t : Tables) : Type 0 where
  pub schema : db.schema ≡ schema_5
  pub sound : IsSound schema_5 db.trees
  pub rows : AreRows db.trees t

-- no rows in any table
abbrev pub no_rows : Tables
no_rows = record { metas = []; curators = []; licences = []; fixed = []; orgs = []; kept = []; vendors = []; spans = []; entries = []; petitions = []; digests = []; reasons = []; opened = []; closed = [] }
