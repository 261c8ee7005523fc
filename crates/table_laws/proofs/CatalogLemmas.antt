-- The list of tables in a database determines its schema.
use Rattle.std.proofs.Common.{◌≡◌, ℕ, List, [], IsTrue, refl, subst}
use Rattle.sqlite_schema.specs.declared.schema.Schema.{Schema}
use Rattle.sqlite_trees.specs.Tree.{Trees}
use Rattle.sqlite_trees.specs.Objects.{catalog_tree}
use Rattle.sqlite_trees.specs.Sound.{is_sound_list}
use Rattle.sqlite_catalog.specs.Listing.{Lists, IsSound}
use Rattle.sqlite_catalog.proofs.ReadLemmas.{lists_once}
use Rattle.sqlite.specs.Effect.{Database}
use Rattle.sqlite.specs.State.{State, IsLive}
use Rattle.table_laws.specs.Making.{no_schema, schema_by, HasTables, IsBlank}

-- trees are sound for at most one schema
pub sound_once : (db : Trees) (a b : Schema) → IsSound a db → IsSound b db → a ≡ b
sound_once db a b p q = lists_once _ a b p.lists q.lists

-- so an open connection has the schema that its trees are sound for
pub live_schema : (s : State) (schema : Schema) → IsLive s → IsTrue s.is_open → IsSound schema s.now.trees → s.now.schema ≡ schema
live_schema s schema live is_open sound = sound_once s.now.trees _ _ (live is_open).0 sound

-- if trees have the tables of two lists of texts, both make the same schema
pub texts_once : (texts others : List (List ℕ)) (db : Trees) → HasTables texts db → HasTables others db → schema_by texts ≡ schema_by others
texts_once texts others db p q = sound_once db _ _ p q

lists_none : Lists [] no_schema
unfolding is_sound_list
lists_none = record { listed = record { tables = tt; indexes = tt; views = tt; owned = tt; named = tt; loads = refl }; guarded = tt }

-- an empty list lists no table
pub none_listed : (db : Trees) (a : Schema) → IsSound a db → db catalog_tree ≡ [] → a ≡ no_schema
none_listed db a sound none = lists_once [] a no_schema (subst (λ rows. Lists rows a) none sound.lists) lists_none

-- a database with an empty list has no tables, and so no rows
pub none_blank : (db : Database) → IsSound db.schema db.trees → db.trees catalog_tree ≡ [] → IsBlank no_schema db
none_blank db sound none = let is = none_listed db.trees db.schema sound none in record { is = is; sound = subst (λ s. IsSound s db.trees) is sound; none = tt }
