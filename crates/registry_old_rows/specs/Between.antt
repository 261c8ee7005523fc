-- The tables in the middle of a migration step.
use Rattle.std.specs.Prelude.{◌≡◌, ℕ, List, []}
use Rattle.sqlite.specs.Effect.{Database}
use Rattle.sqlite_trees.specs.Tree.{Trees}
use Rattle.sqlite_catalog.specs.Listing.{IsSound}
use Rattle.table_laws.specs.Stored.{Stores, StoresUnnumbered}
use Rattle.registry_schema.specs.Schema.{schema_1, schema_2, schema_3, schema_4, schema_5}
use Rattle.registry_schema.specs.Trees.{vendors_tree, spans3_tree, entries3_tree, petitions3_tree, digests4_tree, reasons4_tree, opened5_tree, closed5_tree}
use Rattle.registry_rows.specs.Rows.{vendor_key, vendor_row, IsVendor, span_row, IsVendorSpan, entry_row, IsEntry, petition_key, petition_row, IsPetition, digest_key, digest_row, IsDigestRow, reason_key, reason_row, IsReason, time_key, time_row, IsTimeRow}
use Rattle.registry_rows.specs.Tables.{Tables}
use Rattle.registry_old_rows.specs.Old.{AreFirst, AreSecond, AreThird, AreFourth}

-- a database of the first schema holds these values and these reserved numbers
pub record HoldsFirst (vid : ℕ) (db : Database) (t : Tables) (numbers : List ℕ) : Type 0 where
  pub schema : db.schema ≡ schema_1
  pub sound : IsSound schema_1 db.trees
  pub rows : AreFirst vid db.trees t numbers

-- a database of the second schema does
pub record HoldsSecond (vid : ℕ) (db : Database) (t : Tables) (numbers : List ℕ) : Type 0 where
  pub schema : db.schema ≡ schema_2
  pub sound : IsSound schema_2 db.trees
  pub rows : AreSecond vid db.trees t numbers

-- a database of the third schema does
pub record HoldsThird (db : Database) (t : Tables) : Type 0 where
  pub schema : db.schema ≡ schema_3
  pub sound : IsSound schema_3 db.trees
  pub rows : AreThird db.trees t

-- a database of the fourth schema does
pub record HoldsFourth (db : Database) (t : Tables) : Type 0 where
  pub schema : db.schema ≡ schema_4
  pub sound : IsSound schema_4 db.trees
  pub rows : AreFourth db.trees t

-- the tables of the second schema store the values of `o`, and those that the later ones add store the values of `t`
pub record AreBoth (vid : ℕ) (db : Trees) (o t : Tables) : Type 0 where
  pub second : AreSecond vid db o []
  pub vendors : Stores IsVendor vendor_key vendor_row (db vendors_tree) t.vendors
  pub spans : StoresUnnumbered IsVendorSpan span_row (db spans3_tree) t.spans
  pub entries : StoresUnnumbered IsEntry entry_row (db entries3_tree) t.entries
  pub petitions : Stores IsPetition petition_key petition_row (db petitions3_tree) t.petitions
  pub digests : Stores IsDigestRow digest_key digest_row (db digests4_tree) t.digests
  pub reasons : Stores IsReason reason_key reason_row (db reasons4_tree) t.reasons
  pub opened : Stores IsTimeRow time_key time_row (db opened5_tree) t.opened
  pub closed : Stores IsTimeRow time_key time_row (db closed5_tree) t.closed

pub record HoldsBoth (vid : ℕ) (db : Database) (o t : Tables) : Type 0 where
  pub schema : db.schema ≡ schema_5
  pub sound : IsSound schema_5 db.trees
  pub rows : AreBoth vid db.trees o t
