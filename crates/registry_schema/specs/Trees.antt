-- The tree in which each table's rows stand. Each CREATE TABLE takes the next tree, and the index of its key the one after it.
use Rattle.std.specs.Prelude.{ℕ}

abbrev pub meta_tree : ℕ
meta_tree = 0

abbrev pub curators_tree : ℕ
curators_tree = 1

abbrev pub licences_tree : ℕ
licences_tree = 3

abbrev pub fixed_tree : ℕ
fixed_tree = 5

abbrev pub orgs_tree : ℕ
orgs_tree = 6

abbrev pub petitions_tree : ℕ
petitions_tree = 8

abbrev pub entries_tree : ℕ
entries_tree = 9

abbrev pub reserved_tree : ℕ
reserved_tree = 10

abbrev pub kept_tree : ℕ
kept_tree = 11

abbrev pub spans_tree : ℕ
spans_tree = 13

abbrev pub vendors_tree : ℕ
vendors_tree = 14

abbrev pub spans3_tree : ℕ
spans3_tree = 15

abbrev pub entries3_tree : ℕ
entries3_tree = 17

abbrev pub petitions3_tree : ℕ
petitions3_tree = 19

abbrev pub digests4_tree : ℕ
digests4_tree = 20

abbrev pub reasons4_tree : ℕ
reasons4_tree = 21

abbrev pub opened5_tree : ℕ
opened5_tree = 22

abbrev pub closed5_tree : ℕ
closed5_tree = 23
