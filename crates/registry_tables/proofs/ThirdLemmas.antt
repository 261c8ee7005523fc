-- From the rows of the second schema to those of the newest.
use Rattle.std.proofs.Common.{◌≡◌, ℕ, inl, inr, List, [], ◌∷◌, map, Err, refl, sym, ap, subst, ◌∙◌, arith}
use Rattle.sqlite.specs.Effect.{Database}
use Rattle.sqlite.specs.State.{State, IsUnchanged}
use Rattle.sqlite_keyed.specs.Keyed.{insert_by}
use Rattle.registry_schema.specs.Schema.{schema_2, vendors_table, spans3_table, entries3_table, petitions3_table, digests4_table, reasons4_table, opened5_table, closed5_table}
use Rattle.registry_rules.specs.History.{History}
use Rattle.registry_rows.specs.declared.meta.Meta.{Meta}
use Rattle.registry_rows.specs.Rows.{meta_key, vendor_key}
use Rattle.registry_rows.specs.Tables.{Tables, Holds}
use Rattle.registry_tables.specs.Rows.{newest, meta_of, AreRecords, IsRecorded}
use Rattle.registry_tables.specs.Written.{FillsAll}
use Rattle.registry_tables.proofs.FillLemmas.{undigested, filled_now}
use Rattle.table_laws.specs.Making.{HasMore}
use Rattle.registry_old_rows.specs.Old.{with_version, at_version, vendor_of_meta, HasOneVendor}
use Rattle.registry_old_rows.specs.Between.{HoldsSecond, HoldsBoth}
use Rattle.registry_old_rows.specs.Steps.{Second}
use Rattle.registry_rows.specs.Steps.{Tells}
use Rattle.registry_schema.specs.declared.fault.TableFault.{TableFault}
use Rattle.registry_old_rows.proofs.AgreeLemmas.{agree_2}
use Rattle.registry_tables.specs.Versions.{IsSecond, HoldsOf}
use Rattle.registry_tables.specs.Raising.{emptied, moved, IsMarked, Raises}

-- the new tables exist and are empty
pub third_begins : (vid : ℕ) (a b : Database) (o : Tables) → HasMore schema_2 (vendors_table ∷ spans3_table ∷ entries3_table ∷ petitions3_table ∷ digests4_table ∷ reasons4_table ∷ opened5_table ∷ closed5_table ∷ []) a b → HoldsSecond vid a o [] → HoldsBoth vid b o (emptied o)
third_begins vid a b o more has = record {
  schema = more.is;
  sound = more.sound;
  rows = record {
    second = agree_2 vid b.trees a.trees o [] more.kept has.rows;
    vendors = record { rows_are = more.empty.0; keyed = tt; valid = tt };
    spans = record { numbered = []; stores = record { rows_are = more.empty.1.0; keyed = tt; valid = tt }; values_are = refl };
    entries = record { numbered = []; stores = record { rows_are = more.empty.1.1.0; keyed = tt; valid = tt }; values_are = refl };
    petitions = record { rows_are = more.empty.1.1.1.0; keyed = tt; valid = tt };
    digests = record { rows_are = more.empty.1.1.1.1.0; keyed = tt; valid = tt };
    reasons = record { rows_are = more.empty.1.1.1.1.1.0; keyed = tt; valid = tt };
    opened = record { rows_are = more.empty.1.1.1.1.1.1.0; keyed = tt; valid = tt };
    closed = record { rows_are = more.empty.1.1.1.1.1.1.1.0; keyed = tt; valid = tt };
  };
}

-- what the second schema has in the newest: no vendors yet, and no digests, reasons and times
abbrev bare : Tables → Tables
bare o = record o { vendors = []; digests = []; reasons = []; opened = []; closed = [] }

-- the old tables are empty, and their rows are in the new ones
pub third_ends : (vid : ℕ) (c : Database) (o : Tables) → HoldsBoth vid c (moved o) (bare o) → Holds c (bare o)
third_ends vid c o has = record {
  schema = has.schema;
  sound = has.sound;
  rows = record {
    metas = has.rows.second.first.lasting.metas;
    curators = has.rows.second.first.lasting.curators;
    licences = has.rows.second.first.lasting.licences;
    fixed = has.rows.second.first.lasting.fixed;
    orgs = has.rows.second.first.lasting.orgs;
    no_petitions = has.rows.second.first.petitions.rows_are;
    no_entries = has.rows.second.first.entries.rows_are;
    no_reserved = has.rows.second.first.reserved.rows_are;
    kept = has.rows.second.first.lasting.kept;
    no_spans = has.rows.second.spans.rows_are;
    vendors = has.rows.vendors;
    spans = has.rows.spans;
    entries = has.rows.entries;
    petitions = has.rows.petitions;
    digests = has.rows.digests;
    reasons = has.rows.reasons;
    opened = has.rows.opened;
    closed = has.rows.closed;
  };
}

-- the row of meta for a version, with the founding vendor
abbrev pub meta_by : ℕ → ℕ → List ℕ → Meta
meta_by version vid name = record { version = version; vendor = vid; name = name }

-- inserting the founding vendor and the row of meta gives the same values
pub same_values : (db : Database) (t : Tables) (h : History) → AreRecords h t → HasOneVendor t → (meta : Meta) → meta ≡ at_version 2 (meta_of h)
    → Holds db (record (with_version 2 t) { vendors = insert_by vendor_key [] (record { vid = meta.vendor; name = meta.name }); metas = insert_by meta_key (map (at_version 2) t.metas) (meta_by 5 meta.vendor meta.name); digests = []; reasons = []; opened = []; closed = [] }) → Holds db (undigested t)
same_values db t h had one meta is holds =
    let metas : insert_by meta_key (map (at_version 2) t.metas) (meta_by 5 meta.vendor meta.name) ≡ t.metas =
    ap (λ l. insert_by meta_key (map (at_version 2) l) (meta_by 5 meta.vendor meta.name)) had.metas ∙ ap (λ (m : Meta). meta_by 5 m.vendor m.name ∷ []) is ∙ sym had.metas in
    let only : (record { vid = meta.vendor; name = meta.name } ∷ []) ≡ t.vendors = ap (λ (m : Meta). vendor_of_meta m ∷ []) is ∙ sym (one ∙ ap (map vendor_of_meta) had.metas) in
    subst (λ vs. Holds db (record t { vendors = vs; digests = []; reasons = []; opened = []; closed = [] })) only (subst (λ ms. Holds db (record t { vendors = record { vid = meta.vendor; name = meta.name } ∷ []; metas = ms; digests = []; reasons = []; opened = []; closed = [] })) metas holds)

-- a history held in the second schema is in a store marked with version 2
pub marked_second : (db : Database) (h : History) → HoldsOf 2 db h → (t : Tables) × IsSecond h.founding.vendor db t × AreRecords h t × IsRecorded h t
unfolding HoldsOf
marked_second db h (t, inl first, had, kept) = absurd (let e = first.0 in omega (arith, e))
marked_second db h (t, inr (inl second), had, kept) = (t, second.1, had, kept)
marked_second db h (t, inr (inr (inl third)), had, kept) = absurd (let e = third.0 in omega (arith, e))
marked_second db h (t, inr (inr (inr (inl fourth))), had, kept) = absurd (let e = fourth.0 in omega (arith, e))
marked_second db h (t, inr (inr (inr (inr fifth))), had, kept) = absurd (let e = fifth.0 in omega (arith, e))

pub as_marked : (db : Database) (h : History) (t : Tables) → IsSecond h.founding.vendor db t → AreRecords h t → IsMarked 2 db (record { vid = h.founding.vendor; tables = with_version 2 t; numbers = [] })
as_marked db h t second had = record { held = second.holds; meta = at_version 2 (meta_of h); only = ap (map (at_version 2)) had.metas; named = refl }

-- the calls of the step in order
module _ (a s1 s2 s3 s4 s5 : State) (meta : Meta) (one : (x : Second) → IsMarked 2 a.now x → IsUnchanged a s1 × (x.tables.metas ≡ meta ∷ []))
    (two : s1.now.schema ≡ schema_2 → HasMore schema_2 (vendors_table ∷ spans3_table ∷ entries3_table ∷ petitions3_table ∷ digests4_table ∷ reasons4_table ∷ opened5_table ∷ closed5_table ∷ []) s1.now s2.now)
    (three : (o : Tables) → HoldsBoth meta.vendor s2.now o (emptied o) → HoldsBoth meta.vendor s3.now (moved o) (bare o))
    (four : (t : Tables) → Holds s3.now t → Holds s4.now (record t { vendors = insert_by vendor_key t.vendors (record { vid = meta.vendor; name = meta.name }) }))
    (five : (t : Tables) → Holds s4.now t → Holds s5.now (record t { metas = insert_by meta_key t.metas (meta_by 5 meta.vendor meta.name) })) where
  -- the row of meta is the history's
  meta_is : (h : History) (t : Tables) → IsSecond h.founding.vendor a.now t → AreRecords h t → meta ≡ at_version 2 (meta_of h)
  meta_is h t second had =
      let told = one _ (as_marked a.now h t second had) in
      let both : at_version 2 (meta_of h) ∷ [] ≡ meta ∷ [] = sym (ap (map (at_version 2)) had.metas) ∙ told.1 in cc

  -- all rows are there but those of the digests
  undigested_now : (h : History) (t : Tables) → IsSecond h.founding.vendor a.now t → AreRecords h t → Holds s5.now (undigested t)
  undigested_now h t second had =
      let o = with_version 2 t in
      let told = one _ (as_marked a.now h t second had) in
      let is = meta_is h t second had in
      let held = subst (λ v. HoldsSecond v a.now o []) (sym (ap (λ (m : Meta). m.vendor) is)) second.holds in
      let kept = subst (λ d. HoldsSecond meta.vendor d o []) (sym told.0.0.now_is) held in
      let begun = third_begins meta.vendor s1.now s2.now o (two kept.schema) kept in
      let ended = third_ends meta.vendor s3.now o (three o begun) in
      same_values s5.now t h had second.one meta is (five _ (four _ ended))

  pub third_reached : (h : History) → HoldsOf 2 a.now h → (t : Tables) × Holds s5.now t
  third_reached h rows = let it = marked_second a.now h rows in (undigested it.0, undigested_now h it.0 it.1 it.2)

  pub third_raised : (s6 : State) → FillsAll meta.vendor meta.name s5 s6 → (h : History) → HoldsOf 2 a.now h → HoldsOf newest s6.now h
  third_raised s6 fills h rows =
      let it = marked_second a.now h rows in
      let is = meta_is h it.0 it.1 it.2 in
      filled_now s5 s6 meta.vendor meta.name h it.0 (ap (λ (m : Meta). m.vendor) is) (ap (λ (m : Meta). m.name) is) it.1.older it.2 it.3 (undigested_now h it.0 it.1 it.2) fills

pub third_refused : (old new : State) (e : TableFault) → Tells old new (IsMarked 2 old.now) (Err e) (λ x (m : Meta). x.tables.metas ≡ m ∷ []) → Raises 2 old new {A = Unit {0}} (Err e)
third_refused old new e read foreign =
    let none = read.0 foreign in
    (none.0.was_open, λ h rows. (let it = marked_second old.now h rows in none.1 _ (as_marked old.now h it.0 it.1 it.2)))
