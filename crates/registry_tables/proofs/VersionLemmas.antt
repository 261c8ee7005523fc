-- From the trees to the database of a connection and back, in each schema.
use Rattle.std.proofs.Common.{inl, inr, ℕ, IsTrue, sym, subst}
use Rattle.sqlite.specs.Effect.{Database}
use Rattle.sqlite.specs.State.{State, IsLive}
use Rattle.sqlite_catalog.specs.Listing.{IsSound}
use Rattle.registry_schema.proofs.TextLemmas.{schema_1_is, schema_2_is, schema_3_is, schema_4_is, schema_5_is}
use Rattle.registry_schema.proofs.VersionLemmas.{has_schema_1, has_schema_2, has_schema_3, has_schema_4, has_schema_5}
use Rattle.registry_rules.specs.History.{History}
use Rattle.registry_rows.specs.Tables.{Tables}
use Rattle.registry_tables.specs.Rows.{HasValues, Rows}
use Rattle.registry_tables.specs.Versions.{HoldsValues, HoldsOf}

module _ (vid version : ℕ) (t : Tables) where
  in_values : (s : State) → IsLive s → IsTrue s.is_open → HasValues version vid s.now.trees t → HoldsValues version vid s.now t
  in_values s live is_open (inl (is, has)) = inl (
    is,
    record {
      one = has.one;
      older = has.older;
      numbers = has.numbers;
      holds = record { schema = has_schema_1 s live is_open has.has; sound = subst (λ x. IsSound x s.now.trees) schema_1_is has.has; rows = has.rows };
      reserved = has.reserved;
    },
  )
  in_values s live is_open (inr (inl (is, has))) = inr (inl (
    is,
    record {
      one = has.one;
      older = has.older;
      holds = record { schema = has_schema_2 s live is_open has.has; sound = subst (λ x. IsSound x s.now.trees) schema_2_is has.has; rows = has.rows };
    },
  ))
  in_values s live is_open (inr (inr (inl (is, has)))) = inr (inr (inl (
    is,
    record {
      older = has.older;
      holds = record { schema = has_schema_3 s live is_open has.has; sound = subst (λ x. IsSound x s.now.trees) schema_3_is has.has; rows = has.rows };
    },
  )))
  in_values s live is_open (inr (inr (inr (inl (is, has))))) =
      inr (inr (inr (inl (is, record { holds = record { schema = has_schema_4 s live is_open has.has; sound = subst (λ x. IsSound x s.now.trees) schema_4_is has.has; rows = has.rows } }))))
  in_values s live is_open (inr (inr (inr (inr (is, has))))) =
      inr (inr (inr (inr (is, record { schema = has_schema_5 s live is_open has.has; sound = subst (λ x. IsSound x s.now.trees) schema_5_is has.has; rows = has.rows }))))

  out_values : (db : Database) → HoldsValues version vid db t → HasValues version vid db.trees t
  out_values db (inl (is, held)) = inl (is, record { has = subst (λ x. IsSound x db.trees) (sym schema_1_is) held.holds.sound; one = held.one; older = held.older; numbers = held.numbers; rows = held.holds.rows; reserved = held.reserved })
  out_values db (inr (inl (is, held))) = inr (inl (is, record { has = subst (λ x. IsSound x db.trees) (sym schema_2_is) held.holds.sound; one = held.one; older = held.older; rows = held.holds.rows }))
  out_values db (inr (inr (inl (is, held)))) = inr (inr (inl (is, record { has = subst (λ x. IsSound x db.trees) (sym schema_3_is) held.holds.sound; older = held.older; rows = held.holds.rows })))
  out_values db (inr (inr (inr (inl (is, held))))) = inr (inr (inr (inl (is, record { has = subst (λ x. IsSound x db.trees) (sym schema_4_is) held.holds.sound; rows = held.holds.rows }))))
  out_values db (inr (inr (inr (inr (is, held))))) = inr (inr (inr (inr (is, record { has = subst (λ x. IsSound x db.trees) (sym schema_5_is) held.sound; rows = held.rows }))))

pub enters : (version : ℕ) (s : State) (h : History) → IsLive s → IsTrue s.is_open → Rows version s.now.trees h → HoldsOf version s.now h
unfolding Rows HoldsOf
enters version s h live is_open rows = (rows.0, in_values h.founding.vendor version rows.0 s live is_open rows.1, rows.2, rows.3)

pub goes_out : (version : ℕ) (db : Database) (h : History) → HoldsOf version db h → Rows version db.trees h
unfolding Rows HoldsOf
goes_out version db h holds = (holds.0, out_values h.founding.vendor version holds.0 db holds.1, holds.2, holds.3)
