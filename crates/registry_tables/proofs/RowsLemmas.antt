-- Laws of the rows of a history, so that the layer above need not unfold them.
use Rattle.std.proofs.Common.{ℕ, inl, inr, IsTrue, refl, sym, subst, arith}
use Rattle.sqlite_schema.specs.declared.schema.Schema.{Schema}
use Rattle.sqlite.specs.Effect.{Database}
use Rattle.sqlite.specs.State.{State, IsLive}
use Rattle.sqlite_catalog.specs.Listing.{IsSound}
use Rattle.sqlite_trees.specs.Tree.{Trees}
use Rattle.table_laws.specs.Making.{schema_by}
use Rattle.registry_schema.specs.Texts.{texts_1, texts_2, texts_3, texts_4, texts_5}
use Rattle.registry_schema.proofs.TextLemmas.{schema_5_is}
use Rattle.registry_schema.proofs.VersionLemmas.{has_schema_5}
use Rattle.registry_rules.specs.History.{History}
use Rattle.registry_rows.specs.Tables.{Tables, HasRows}
use Rattle.registry_tables.specs.Rows.{newest, Rows, HoldsRows, AreRecords, IsRecorded}

-- in the newest schema
newest_values : (db : Trees) (h : History) → Rows newest db h → (t : Tables) × HasRows db t × AreRecords h t × IsRecorded h t
unfolding Rows
newest_values db h (t, inl first, had, kept) = absurd (let e = first.0 in omega (arith, e))
newest_values db h (t, inr (inl second), had, kept) = absurd (let e = second.0 in omega (arith, e))
newest_values db h (t, inr (inr (inl third)), had, kept) = absurd (let e = third.0 in omega (arith, e))
newest_values db h (t, inr (inr (inr (inl fourth))), had, kept) = absurd (let e = fourth.0 in omega (arith, e))
newest_values db h (t, inr (inr (inr (inr fifth))), had, kept) = (t, fifth.1, had, kept)

-- from the trees to the database of a connection
pub enters : (s : State) (h : History) → IsLive s → IsTrue s.is_open → Rows newest s.now.trees h → HoldsRows newest s.now h
unfolding HoldsRows
enters s h live is_open rows =
    let it = newest_values s.now.trees h rows in
    (refl, it.0, record { schema = has_schema_5 s live is_open it.1.has; sound = subst (λ x. IsSound x s.now.trees) schema_5_is it.1.has; rows = it.1.rows }, it.2, it.3)

-- and back
pub goes_out : (db : Database) (h : History) → HoldsRows newest db h → Rows newest db.trees h
unfolding Rows HoldsRows
goes_out db h holds = (holds.1, inr (inr (inr (inr (refl, record { has = subst (λ x. IsSound x db.trees) (sym schema_5_is) holds.2.sound; rows = holds.2.rows })))), holds.3, holds.4)

-- trees with the rows of a history are a sound database
pub rows_sound : (version : ℕ) (db : Trees) (h : History) → Rows version db h → (schema : Schema) × IsSound schema db
unfolding Rows
rows_sound version db h (t, inl first, had, kept) = (schema_by texts_1, first.1.has)
rows_sound version db h (t, inr (inl second), had, kept) = (schema_by texts_2, second.1.has)
rows_sound version db h (t, inr (inr (inl third)), had, kept) = (schema_by texts_3, third.1.has)
rows_sound version db h (t, inr (inr (inr (inl fourth))), had, kept) = (schema_by texts_4, fourth.1.has)
rows_sound version db h (t, inr (inr (inr (inr fifth))), had, kept) = (schema_by texts_5, fifth.1.has)
