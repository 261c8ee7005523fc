-- The CREATE TABLE text of each table, to the byte, and what the table holds.
use Rattle.std.specs.Prelude.{ℕ, List, [], ◌∷◌, ◌++◌, codes}

-- one row: the schema version, the founding vendor and its name
abbrev pub meta_text : List ℕ
meta_text = codes "CREATE TABLE meta (id INTEGER PRIMARY KEY, version INTEGER NOT NULL, vendor INTEGER NOT NULL, name TEXT NOT NULL) STRICT"

-- a row for each curator
abbrev pub curators_text : List ℕ
curators_text = codes "CREATE TABLE curators (name TEXT PRIMARY KEY NOT NULL) STRICT"

-- a row for each licence that is allowed now
abbrev pub licences_text : List ℕ
licences_text = codes "CREATE TABLE licences (name TEXT PRIMARY KEY NOT NULL) STRICT"

-- the fixed numbers of the founding vendor, reserved for good, as maximal spans
abbrev pub fixed_text : List ℕ
fixed_text = codes "CREATE TABLE fixed (lo INTEGER PRIMARY KEY, hi INTEGER NOT NULL) STRICT"

-- a row for each organisation
abbrev pub orgs_text : List ℕ
orgs_text = codes "CREATE TABLE orgs (slug TEXT PRIMARY KEY NOT NULL, title TEXT NOT NULL, site TEXT NOT NULL, keeper TEXT NOT NULL) STRICT"

-- the petitions up to the second schema, empty from the third on
abbrev pub petitions_text : List ℕ
petitions_text = codes "CREATE TABLE petitions (id INTEGER PRIMARY KEY, org TEXT NOT NULL, want INTEGER, title TEXT NOT NULL, licence TEXT NOT NULL, site TEXT NOT NULL, source TEXT NOT NULL, state INTEGER NOT NULL, pid INTEGER) STRICT"

-- the owned numbers up to the second schema, empty from the third on
abbrev pub entries_text : List ℕ
entries_text = codes "CREATE TABLE entries (pid INTEGER PRIMARY KEY, org TEXT NOT NULL, held INTEGER NOT NULL, title TEXT NOT NULL, licence TEXT, site TEXT, source TEXT) STRICT"

-- the numbers that orders reserved in the first schema, empty from the second on
abbrev pub reserved_text : List ℕ
reserved_text = codes "CREATE TABLE reserved (pid INTEGER PRIMARY KEY) STRICT"

-- a row for each accepted request: the canonical form of its order, and its reply
abbrev pub kept_text : List ℕ
kept_text = codes "CREATE TABLE kept (caller TEXT NOT NULL, request_key TEXT NOT NULL, request BLOB NOT NULL, reply TEXT NOT NULL, PRIMARY KEY (caller, request_key)) STRICT"

-- the maximal spans of the numbers that orders reserved in the second schema, empty from the third on
abbrev pub spans_text : List ℕ
spans_text = codes "CREATE TABLE spans (lo INTEGER PRIMARY KEY, hi INTEGER NOT NULL) STRICT"

-- a row for each vendor, the founding one included
abbrev pub vendors_text : List ℕ
vendors_text = codes "CREATE TABLE vendors (vid INTEGER PRIMARY KEY, name TEXT NOT NULL) STRICT"

-- the maximal spans of each vendor's numbers that orders reserved
abbrev pub spans3_text : List ℕ
spans3_text = codes "CREATE TABLE spans3 (vid INTEGER NOT NULL, lo INTEGER NOT NULL, hi INTEGER NOT NULL, PRIMARY KEY (vid, lo)) STRICT"

-- a row for each owned number
abbrev pub entries3_text : List ℕ
entries3_text = codes "CREATE TABLE entries3 (vid INTEGER NOT NULL, pid INTEGER NOT NULL, org TEXT NOT NULL, held INTEGER NOT NULL, title TEXT NOT NULL, licence TEXT, site TEXT, source TEXT, PRIMARY KEY (vid, pid)) STRICT"

-- a row for each petition
abbrev pub petitions3_text : List ℕ
petitions3_text = codes "CREATE TABLE petitions3 (id INTEGER PRIMARY KEY, vid INTEGER NOT NULL, org TEXT NOT NULL, want INTEGER, title TEXT NOT NULL, licence TEXT NOT NULL, site TEXT NOT NULL, source TEXT NOT NULL, state INTEGER NOT NULL, pid INTEGER) STRICT"

-- a row for the founding, with the ID 0, and one for each accepted request, numbered from 1: the digest of the record up to
-- its line, and the time of the request
abbrev pub digests4_text : List ℕ
digests4_text = codes "CREATE TABLE digests4 (id INTEGER PRIMARY KEY, time TEXT, digest TEXT NOT NULL) STRICT"

-- the reason of each petition that was declined for one
abbrev pub reasons4_text : List ℕ
reasons4_text = codes "CREATE TABLE reasons4 (petition INTEGER PRIMARY KEY, reason TEXT NOT NULL) STRICT"

-- the time at which each petition was opened, if the request that opened it had one
abbrev pub opened5_text : List ℕ
opened5_text = codes "CREATE TABLE opened5 (petition INTEGER PRIMARY KEY, time TEXT NOT NULL) STRICT"

-- the time at which each petition was granted, declined or withdrawn, if that request had one
abbrev pub closed5_text : List ℕ
closed5_text = codes "CREATE TABLE closed5 (petition INTEGER PRIMARY KEY, time TEXT NOT NULL) STRICT"

-- the texts of the first schema
abbrev pub texts_1 : List (List ℕ)
texts_1 = meta_text ∷ curators_text ∷ licences_text ∷ fixed_text ∷ orgs_text ∷ petitions_text ∷ entries_text ∷ reserved_text ∷ kept_text ∷ []

-- the second adds the spans of reserved numbers
abbrev pub texts_2 : List (List ℕ)
texts_2 = texts_1 ++ spans_text ∷ []

-- the third adds the vendors, and tables with the vendor in each row
abbrev pub texts_3 : List (List ℕ)
texts_3 = texts_2 ++ vendors_text ∷ spans3_text ∷ entries3_text ∷ petitions3_text ∷ []

-- the fourth adds the digests and the reasons
abbrev pub texts_4 : List (List ℕ)
texts_4 = texts_3 ++ digests4_text ∷ reasons4_text ∷ []

-- the fifth adds the times of petitions
abbrev pub texts_5 : List (List ℕ)
texts_5 = texts_4 ++ opened5_text ∷ closed5_text ∷ []
