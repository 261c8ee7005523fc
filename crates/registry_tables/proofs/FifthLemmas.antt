-- From the rows of the fourth schema to those of the newest.
use Rattle.std.proofs.Common.{◌≡◌, inl, inr, true, [], ◌∷◌, Err, IsTrue, refl, arith}
use Rattle.sqlite.specs.Effect.{Database}
use Rattle.sqlite.specs.State.{State, IsUnchanged}
use Rattle.sqlite_keyed.specs.Keyed.{insert_by}
use Rattle.table_laws.specs.Making.{HasMore}
use Rattle.registry_schema.specs.Schema.{schema_4, opened5_table, closed5_table}
use Rattle.registry_rules.specs.History.{History}
use Rattle.registry_rows.specs.declared.meta.Meta.{Meta}
use Rattle.registry_rows.specs.Rows.{meta_key}
use Rattle.registry_rows.specs.Steps.{Tells}
use Rattle.registry_rows.specs.Tables.{Tables, Holds}
use Rattle.registry_schema.specs.declared.fault.TableFault.{TableFault}
use Rattle.registry_old_rows.specs.Old.{with_version}
use Rattle.registry_old_rows.specs.Between.{HoldsFourth}
use Rattle.registry_old_rows.proofs.AgreeLemmas.{agree_4}
use Rattle.registry_tables.specs.Rows.{newest, AreRecords, IsRecorded}
use Rattle.registry_tables.specs.Known.{SaysFourth, names_version}
use Rattle.registry_tables.specs.Raising.{Raised, IsMarkedNewest, Raises}
use Rattle.registry_tables.specs.Versions.{IsFourth, HoldsOf}
use Rattle.registry_tables.specs.Times.{PutsRecord}
use Rattle.registry_tables.proofs.TimeLemmas.{record_times}
use Rattle.registry_tables.proofs.RaiseLemmas.{step_refused, step_reached, blank_now}
use Rattle.registry_tables.proofs.ThirdLemmas.{meta_by}

-- the values before the times of petitions are written
abbrev pub untimed : Tables → Tables
untimed t = record t { opened = []; closed = [] }

-- the new tables exist and are empty
pub fifth_begins : (a b : Database) (t : Tables) → HasMore schema_4 (opened5_table ∷ closed5_table ∷ []) a b → HoldsFourth a t → Holds b (untimed t)
fifth_begins a b t more has =
    let kept = agree_4 b.trees a.trees t more.kept has.rows in
    record {
      schema = more.is;
      sound = more.sound;
      rows = record {
        metas = kept.third.lasting.metas;
        curators = kept.third.lasting.curators;
        licences = kept.third.lasting.licences;
        fixed = kept.third.lasting.fixed;
        orgs = kept.third.lasting.orgs;
        no_petitions = kept.third.no_petitions;
        no_entries = kept.third.no_entries;
        no_reserved = kept.third.no_reserved;
        kept = kept.third.lasting.kept;
        no_spans = kept.third.no_spans;
        vendors = kept.third.vendors;
        spans = kept.third.spans;
        entries = kept.third.entries;
        petitions = kept.third.petitions;
        digests = kept.digests;
        reasons = kept.reasons;
        opened = record { rows_are = more.empty.0; keyed = tt; valid = tt };
        closed = record { rows_are = more.empty.1.0; keyed = tt; valid = tt };
      };
    }

-- a history held in the fourth schema
pub held_fourth : (db : Database) (h : History) → HoldsOf 4 db h → (t : Tables) × IsFourth db t × AreRecords h t × IsRecorded h t
unfolding HoldsOf
held_fourth db h (t, inl first, had, kept) = absurd (let e = first.0 in omega (arith, e))
held_fourth db h (t, inr (inl second), had, kept) = absurd (let e = second.0 in omega (arith, e))
held_fourth db h (t, inr (inr (inl third)), had, kept) = absurd (let e = third.0 in omega (arith, e))
held_fourth db h (t, inr (inr (inr (inl fourth))), had, kept) = (t, fourth.1, had, kept)
held_fourth db h (t, inr (inr (inr (inr fifth))), had, kept) = absurd (let e = fifth.0 in omega (arith, e))

-- the calls of the step in order
module _ (a s1 : State) (one : a.now.schema ≡ schema_4 → HasMore schema_4 (opened5_table ∷ closed5_table ∷ []) a.now s1.now) where
  begun : (t : Tables) → IsFourth a.now t → Holds s1.now (untimed (with_version 4 t))
  begun t is = fifth_begins a.now s1.now (with_version 4 t) (one is.holds.schema) is.holds

  pub fifth_refused : (new : State) (e : TableFault) → IsTrue a.is_open → Tells s1 new (IsMarkedNewest 4 s1.now) (Err e) (λ x (m : Meta). x.tables.metas ≡ m ∷ []) → Raises 4 a new {A = Unit {0}} (Err e)
  fifth_refused = step_refused 4 a s1 (IsFourth a.now) untimed (λ t metas. refl) (held_fourth a.now) begun

  pub fourth_said : ((t : Tables) → Holds s1.now t → names_version 4 t ≡ true) → SaysFourth a.now
  fourth_said says t has = says (untimed t) (fifth_begins a.now s1.now t (one has.schema) has)

  module _ (s2 s3 : State) (meta : Meta) (two : (x : Raised) → IsMarkedNewest 4 s1.now x → IsUnchanged s1 s2 × (x.tables.metas ≡ meta ∷ []))
      (three : (t : Tables) → Holds s2.now t → Holds s3.now (record t { metas = insert_by meta_key t.metas (meta_by newest meta.vendor meta.name) })) where
    pub fifth_reached : (h : History) → HoldsOf 4 a.now h → (t : Tables) × Holds s3.now t
    fifth_reached = step_reached 4 a s1 (IsFourth a.now) untimed (λ t metas. refl) (held_fourth a.now) begun s2 s3 meta two three

    pub fifth_raised : (s4 : State) → PutsRecord s3 s4 → (h : History) → HoldsOf 4 a.now h → HoldsOf newest s4.now h
    unfolding HoldsOf
    fifth_raised s4 puts h rows =
        let it = held_fourth a.now h rows in
        let there = blank_now 4 a s1 (IsFourth a.now) untimed (λ t metas. refl) (held_fourth a.now) begun s2 s3 meta two three h it.0 it.1 it.2 in
        let done = puts.1 (untimed it.0) there in
        let had = it.2 in
        let recorded = it.3 in (
          record it.0 { opened = done.0.opened; closed = done.0.closed },
          inr (inr (inr (inr (refl, done.1)))),
          record {
            founding = had.founding;
            metas = had.metas;
            curators = had.curators;
            licences = had.licences;
            fixed = had.fixed;
            orgs = had.orgs;
            vendors = had.vendors;
            spans = had.spans;
            entries = had.entries;
            petitions = had.petitions;
            reasons = had.reasons;
          },
          record {
            kept = recorded.kept;
            digests = recorded.digests;
            times = λ legal valid. record_times h done.0 legal (done.2 h (record { kept = recorded.kept; digests = recorded.digests legal valid; valid = valid }));
          },
        )
