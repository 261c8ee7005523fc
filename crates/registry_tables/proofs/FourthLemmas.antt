-- From the rows of the third schema to those of the newest.
use Rattle.std.proofs.Common.{◌≡◌, inl, inr, true, [], ◌∷◌, Err, IsTrue, refl, ap, arith}
use Rattle.sqlite.specs.Effect.{Database}
use Rattle.sqlite.specs.State.{State, IsUnchanged}
use Rattle.sqlite_keyed.specs.Keyed.{insert_by}
use Rattle.table_laws.specs.Making.{HasMore}
use Rattle.registry_schema.specs.Schema.{schema_3, digests4_table, reasons4_table, opened5_table, closed5_table}
use Rattle.registry_rules.specs.History.{History}
use Rattle.registry_rows.specs.declared.meta.Meta.{Meta}
use Rattle.registry_rows.specs.Rows.{meta_key}
use Rattle.registry_rows.specs.Steps.{Tells}
use Rattle.registry_rows.specs.Tables.{Tables, Holds}
use Rattle.registry_schema.specs.declared.fault.TableFault.{TableFault}
use Rattle.registry_old_rows.specs.Old.{with_version}
use Rattle.registry_old_rows.specs.Between.{HoldsThird}
use Rattle.registry_old_rows.proofs.AgreeLemmas.{agree_3}
use Rattle.registry_tables.specs.Rows.{newest, AreRecords, IsRecorded}
use Rattle.registry_tables.specs.Known.{SaysThird, names_version}
use Rattle.registry_tables.specs.Raising.{Raised, IsMarkedNewest, Raises}
use Rattle.registry_tables.specs.Versions.{IsThird, HoldsOf}
use Rattle.registry_tables.specs.Written.{FillsAll}
use Rattle.registry_tables.proofs.FillLemmas.{undigested, filled_now}
use Rattle.registry_tables.proofs.RaiseLemmas.{step_refused, step_reached, meta_is, blank_now}
use Rattle.registry_tables.proofs.ThirdLemmas.{meta_by}

-- the new tables exist and are empty
pub fourth_begins : (a b : Database) (t : Tables) → HasMore schema_3 (digests4_table ∷ reasons4_table ∷ opened5_table ∷ closed5_table ∷ []) a b → HoldsThird a t → Holds b (undigested t)
fourth_begins a b t more has =
    let kept = agree_3 b.trees a.trees t more.kept has.rows in
    record {
      schema = more.is;
      sound = more.sound;
      rows = record {
        metas = kept.lasting.metas;
        curators = kept.lasting.curators;
        licences = kept.lasting.licences;
        fixed = kept.lasting.fixed;
        orgs = kept.lasting.orgs;
        no_petitions = kept.no_petitions;
        no_entries = kept.no_entries;
        no_reserved = kept.no_reserved;
        kept = kept.lasting.kept;
        no_spans = kept.no_spans;
        vendors = kept.vendors;
        spans = kept.spans;
        entries = kept.entries;
        petitions = kept.petitions;
        digests = record { rows_are = more.empty.0; keyed = tt; valid = tt };
        reasons = record { rows_are = more.empty.1.0; keyed = tt; valid = tt };
        opened = record { rows_are = more.empty.1.1.0; keyed = tt; valid = tt };
        closed = record { rows_are = more.empty.1.1.1.0; keyed = tt; valid = tt };
      };
    }

-- a history held in the third schema
pub held_third : (db : Database) (h : History) → HoldsOf 3 db h → (t : Tables) × IsThird db t × AreRecords h t × IsRecorded h t
unfolding HoldsOf
held_third db h (t, inl first, had, kept) = absurd (let e = first.0 in omega (arith, e))
held_third db h (t, inr (inl second), had, kept) = absurd (let e = second.0 in omega (arith, e))
held_third db h (t, inr (inr (inl third)), had, kept) = (t, third.1, had, kept)
held_third db h (t, inr (inr (inr (inl fourth))), had, kept) = absurd (let e = fourth.0 in omega (arith, e))
held_third db h (t, inr (inr (inr (inr fifth))), had, kept) = absurd (let e = fifth.0 in omega (arith, e))

-- the calls of the step in order
module _ (a s1 : State) (one : a.now.schema ≡ schema_3 → HasMore schema_3 (digests4_table ∷ reasons4_table ∷ opened5_table ∷ closed5_table ∷ []) a.now s1.now) where
  begun : (t : Tables) → IsThird a.now t → Holds s1.now (undigested (with_version 3 t))
  begun t is = fourth_begins a.now s1.now (with_version 3 t) (one is.holds.schema) is.holds

  pub fourth_refused : (new : State) (e : TableFault) → IsTrue a.is_open → Tells s1 new (IsMarkedNewest 3 s1.now) (Err e) (λ x (m : Meta). x.tables.metas ≡ m ∷ []) → Raises 3 a new {A = Unit {0}} (Err e)
  fourth_refused = step_refused 3 a s1 (IsThird a.now) undigested (λ t metas. refl) (held_third a.now) begun

  pub third_said : ((t : Tables) → Holds s1.now t → names_version 3 t ≡ true) → SaysThird a.now
  third_said says t has = says (undigested t) (fourth_begins a.now s1.now t (one has.schema) has)

  module _ (s2 s3 : State) (meta : Meta) (two : (x : Raised) → IsMarkedNewest 3 s1.now x → IsUnchanged s1 s2 × (x.tables.metas ≡ meta ∷ []))
      (three : (t : Tables) → Holds s2.now t → Holds s3.now (record t { metas = insert_by meta_key t.metas (meta_by newest meta.vendor meta.name) })) where
    pub fourth_reached : (h : History) → HoldsOf 3 a.now h → (t : Tables) × Holds s3.now t
    fourth_reached = step_reached 3 a s1 (IsThird a.now) undigested (λ t metas. refl) (held_third a.now) begun s2 s3 meta two three

    pub fourth_raised : (s4 : State) → FillsAll meta.vendor meta.name s3 s4 → (h : History) → HoldsOf 3 a.now h → HoldsOf newest s4.now h
    fourth_raised s4 fills h rows =
        let it = held_third a.now h rows in
        let is = meta_is 3 a s1 (IsThird a.now) undigested (λ t metas. refl) (held_third a.now) begun s2 s3 meta two three h it.0 it.1 it.2 in
        let there = blank_now 3 a s1 (IsThird a.now) undigested (λ t metas. refl) (held_third a.now) begun s2 s3 meta two three h it.0 it.1 it.2 in
        filled_now s3 s4 meta.vendor meta.name h it.0 (ap (λ (m : Meta). m.vendor) is) (ap (λ (m : Meta). m.name) is) it.1.older it.2 it.3 there fills
