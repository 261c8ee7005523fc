-- The tables that the texts define, and the schemas that they make.
use Rattle.std.specs.Prelude.{[], ◌∷◌, codes}
use Rattle.sqlite_schema.specs.declared.schema.Table.{Table}
use Rattle.sqlite_schema.specs.declared.schema.Schema.{Schema}
use Rattle.sqlite_catalog.specs.Change.{created}
use Rattle.table_laws.specs.Shape.{numbered_table, keyed_table, integer, integer_or_null, text, text_or_null, blob}
use Rattle.table_laws.specs.Making.{no_schema}
use Rattle.registry_schema.specs.Trees.{meta_tree, curators_tree, licences_tree, fixed_tree, orgs_tree, petitions_tree, entries_tree, reserved_tree, kept_tree, spans_tree, vendors_tree, spans3_tree, entries3_tree, petitions3_tree, digests4_tree, reasons4_tree, opened5_tree, closed5_tree}

abbrev pub meta_table : Table
meta_table = numbered_table meta_tree (codes "meta") (integer_or_null (codes "id") ∷ integer (codes "version") ∷ integer (codes "vendor") ∷ text (codes "name") ∷ [])

abbrev pub curators_table : Table
curators_table = keyed_table curators_tree (codes "curators") (1 ∷ []) (text (codes "name") ∷ [])

abbrev pub licences_table : Table
licences_table = keyed_table licences_tree (codes "licences") (1 ∷ []) (text (codes "name") ∷ [])

abbrev pub fixed_table : Table
fixed_table = numbered_table fixed_tree (codes "fixed") (integer_or_null (codes "lo") ∷ integer (codes "hi") ∷ [])

abbrev pub orgs_table : Table
orgs_table = keyed_table orgs_tree (codes "orgs") (1 ∷ []) (text (codes "slug") ∷ text (codes "title") ∷ text (codes "site") ∷ text (codes "keeper") ∷ [])

abbrev pub petitions_table : Table
petitions_table = numbered_table petitions_tree (codes "petitions") (integer_or_null (codes "id") ∷ text (codes "org") ∷ integer_or_null (codes "want") ∷ text (codes "title") ∷ text (codes "licence") ∷ text (codes "site") ∷ text (codes "source") ∷ integer (codes "state") ∷ integer_or_null (codes "pid") ∷ [])

abbrev pub entries_table : Table
entries_table = numbered_table entries_tree (codes "entries") (integer_or_null (codes "pid") ∷ text (codes "org") ∷ integer (codes "held") ∷ text (codes "title") ∷ text_or_null (codes "licence") ∷ text_or_null (codes "site") ∷ text_or_null (codes "source") ∷ [])

abbrev pub reserved_table : Table
reserved_table = numbered_table reserved_tree (codes "reserved") (integer_or_null (codes "pid") ∷ [])

abbrev pub kept_table : Table
kept_table = keyed_table kept_tree (codes "kept") (1 ∷ 2 ∷ []) (text (codes "caller") ∷ text (codes "request_key") ∷ blob (codes "request") ∷ text (codes "reply") ∷ [])

abbrev pub spans_table : Table
spans_table = numbered_table spans_tree (codes "spans") (integer_or_null (codes "lo") ∷ integer (codes "hi") ∷ [])

abbrev pub vendors_table : Table
vendors_table = numbered_table vendors_tree (codes "vendors") (integer_or_null (codes "vid") ∷ text (codes "name") ∷ [])

abbrev pub spans3_table : Table
spans3_table = keyed_table spans3_tree (codes "spans3") (1 ∷ 2 ∷ []) (integer (codes "vid") ∷ integer (codes "lo") ∷ integer (codes "hi") ∷ [])

abbrev pub entries3_table : Table
entries3_table = keyed_table entries3_tree (codes "entries3") (1 ∷ 2 ∷ []) (integer (codes "vid") ∷ integer (codes "pid") ∷ text (codes "org") ∷ integer (codes "held") ∷ text (codes "title") ∷ text_or_null (codes "licence") ∷ text_or_null (codes "site") ∷ text_or_null (codes "source") ∷ [])

abbrev pub petitions3_table : Table
petitions3_table = numbered_table petitions3_tree (codes "petitions3") (integer_or_null (codes "id") ∷ integer (codes "vid") ∷ text (codes "org") ∷ integer_or_null (codes "want") ∷ text (codes "title") ∷ text (codes "licence") ∷ text (codes "site") ∷ text (codes "source") ∷ integer (codes "state") ∷ integer_or_null (codes "pid") ∷ [])

abbrev pub digests4_table : Table
digests4_table = numbered_table digests4_tree (codes "digests4") (integer_or_null (codes "id") ∷ text_or_null (codes "time") ∷ text (codes "digest") ∷ [])

abbrev pub reasons4_table : Table
reasons4_table = numbered_table reasons4_tree (codes "reasons4") (integer_or_null (codes "petition") ∷ text (codes "reason") ∷ [])

abbrev pub opened5_table : Table
opened5_table = numbered_table opened5_tree (codes "opened5") (integer_or_null (codes "petition") ∷ text (codes "time") ∷ [])

abbrev pub closed5_table : Table
closed5_table = numbered_table closed5_tree (codes "closed5") (integer_or_null (codes "petition") ∷ text (codes "time") ∷ [])

-- the schema up to this table
abbrev pub past_meta : Schema
past_meta = created no_schema meta_table

-- the schema up to this table
abbrev pub past_curators : Schema
past_curators = created past_meta curators_table

-- the schema up to this table
abbrev pub past_licences : Schema
past_licences = created past_curators licences_table

-- the schema up to this table
abbrev pub past_fixed : Schema
past_fixed = created past_licences fixed_table

-- the schema up to this table
abbrev pub past_orgs : Schema
past_orgs = created past_fixed orgs_table

-- the schema up to this table
abbrev pub past_petitions : Schema
past_petitions = created past_orgs petitions_table

-- the schema up to this table
abbrev pub past_entries : Schema
past_entries = created past_petitions entries_table

-- the schema up to this table
abbrev pub past_reserved : Schema
past_reserved = created past_entries reserved_table

-- the first schema
abbrev pub schema_1 : Schema
schema_1 = created past_reserved kept_table

-- the second
abbrev pub schema_2 : Schema
schema_2 = created schema_1 spans_table

-- the schema up to this table
abbrev pub past_vendors : Schema
past_vendors = created schema_2 vendors_table

-- the schema up to this table
abbrev pub past_spans3 : Schema
past_spans3 = created past_vendors spans3_table

-- the schema up to this table
abbrev pub past_entries3 : Schema
past_entries3 = created past_spans3 entries3_table

-- the third
abbrev pub schema_3 : Schema
schema_3 = created past_entries3 petitions3_table

-- the schema up to this table
abbrev pub past_digests4 : Schema
past_digests4 = created schema_3 digests4_table

-- the fourth
abbrev pub schema_4 : Schema
schema_4 = created past_digests4 reasons4_table

-- the schema up to this table
abbrev pub past_opened5 : Schema
past_opened5 = created schema_4 opened5_table

-- the fifth and newest
abbrev pub schema_5 : Schema
schema_5 = created past_opened5 closed5_table
