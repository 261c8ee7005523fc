-- A step in which the tables of an older schema stay, while those of the later ones are made: the row of meta, and what the step
-- leaves until it fills the new tables.
use Rattle.std.proofs.Common.{◌≡◌, ℕ, List, [], ◌∷◌, map, Err, IsTrue, refl, sym, ap, subst, ◌∙◌}
use Rattle.sqlite.specs.State.{State, IsUnchanged}
use Rattle.sqlite_keyed.specs.Keyed.{insert_by}
use Rattle.registry_rules.specs.History.{History}
use Rattle.registry_schema.specs.declared.fault.TableFault.{TableFault}
use Rattle.registry_rows.specs.declared.meta.Meta.{Meta}
use Rattle.registry_rows.specs.Rows.{meta_key}
use Rattle.registry_rows.specs.Steps.{Tells}
use Rattle.registry_rows.specs.Tables.{Tables, Holds}
use Rattle.registry_old_rows.specs.Old.{with_version, at_version}
use Rattle.registry_tables.specs.Rows.{newest, meta_of, AreRecords, IsRecorded}
use Rattle.registry_tables.specs.Raising.{Raised, IsMarkedNewest, Raises}
use Rattle.registry_tables.specs.Versions.{HoldsOf}
use Rattle.registry_tables.proofs.ThirdLemmas.{meta_by}

-- `Is` says that the values are held in the older schema, and `blank` empties the tables that are new
module _ (version : ℕ) (a s1 : State) (Is : Tables → Type 0) (blank : Tables → Tables) (apart : (t : Tables) (metas : List Meta) → blank (record t { metas = metas }) ≡ record (blank t) { metas = metas })
    (held : (h : History) → HoldsOf version a.now h → (t : Tables) × Is t × AreRecords h t × IsRecorded h t) (begins : (t : Tables) → Is t → Holds s1.now (blank (with_version version t))) where
  -- once the tables are there, the row of meta still names this version
  marked : (h : History) (t : Tables) → Is t → AreRecords h t → IsMarkedNewest version s1.now (record { tables = blank (with_version version t); meta = at_version version (meta_of h) })
  marked h t is had = record {
    held = begins t is;
    only = ap (λ (x : Tables). x.metas) (apart t (map (at_version version) t.metas)) ∙ ap (map (at_version version)) had.metas;
    named = refl;
  }

  pub step_refused : (new : State) (e : TableFault) → IsTrue a.is_open → Tells s1 new (IsMarkedNewest version s1.now) (Err e) (λ x (m : Meta). x.tables.metas ≡ m ∷ []) → Raises version a new {A = Unit {0}} (Err e)
  step_refused new e was read foreign =
      let none = read.0 foreign in
      (was, λ h rows. (let it = held h rows in none.1 _ (marked h it.0 it.1 it.2)))

  module _ (s2 s3 : State) (meta : Meta) (two : (x : Raised) → IsMarkedNewest version s1.now x → IsUnchanged s1 s2 × (x.tables.metas ≡ meta ∷ []))
      (three : (t : Tables) → Holds s2.now t → Holds s3.now (record t { metas = insert_by meta_key t.metas (meta_by newest meta.vendor meta.name) })) where
    -- the row of meta is the history's
    pub meta_is : (h : History) (t : Tables) → Is t → AreRecords h t → meta ≡ at_version version (meta_of h)
    meta_is h t is had =
        let was = marked h t is had in
        let told = two _ was in
        let both : at_version version (meta_of h) ∷ [] ≡ meta ∷ [] = sym was.only ∙ told.1 in cc

    -- all rows are there but those of the new tables
    pub blank_now : (h : History) (t : Tables) → Is t → AreRecords h t → Holds s3.now (blank t)
    blank_now h t is had =
        let was = marked h t is had in
        let told = two _ was in
        let after : Tables → Tables = λ x. record x { metas = insert_by meta_key x.metas (meta_by newest meta.vendor meta.name) } in
        let there = subst (λ d. Holds d (blank (with_version version t))) (sym told.0.0.now_is) was.held in
        let put = subst (λ (x : Tables). Holds s3.now (after x)) (apart t (map (at_version version) t.metas)) (three _ there) in
        let metas : insert_by meta_key (map (at_version version) t.metas) (meta_by newest meta.vendor meta.name) ≡ t.metas =
        ap (λ l. insert_by meta_key (map (at_version version) l) (meta_by newest meta.vendor meta.name)) had.metas ∙ ap (λ (m : Meta). meta_by newest m.vendor m.name ∷ []) (meta_is h t is had) ∙ sym had.metas in
        subst (λ (x : Tables). Holds s3.now x) (sym (apart t t.metas)) (subst (λ ms. Holds s3.now (record (blank t) { metas = ms })) metas put)

    pub step_reached : (h : History) → HoldsOf version a.now h → (t : Tables) × Holds s3.now t
    step_reached h rows = let it = held h rows in (blank it.0, blank_now h it.0 it.1 it.2)
