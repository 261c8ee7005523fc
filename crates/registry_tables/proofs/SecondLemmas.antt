-- From the rows of the first schema to those of the second.
use Rattle.std.proofs.Common.{◌≡◌, ℕ, inl, inr, List, [], ◌∷◌, map, fold, nat_eq, Err, refl, sym, ap, subst, ◌∙◌, arith, IsTrue}
use Rattle.std.specs.List.{list_any}
use Rattle.sqlite.specs.Effect.{Database}
use Rattle.sqlite.specs.State.{State, IsUnchanged}
use Rattle.sqlite_keyed.specs.Keyed.{insert_by}
use Rattle.table_laws.specs.Inside.{GoesOn, StaysInside}
use Rattle.usbnum_core.specs.Number.{IsId}
use Rattle.usbnum_core.specs.Spans.{spans_have, IsSpread}
use Rattle.usbnum_core.specs.declared.number.Number.{Number}
use Rattle.usbnum_core.specs.declared.number.Span.{Span}
use Rattle.registry_schema.specs.Schema.{schema_1, spans_table}
use Rattle.registry_schema.specs.declared.fault.TableFault.{TableFault}
use Rattle.registry_schema.specs.declared.fault.TableFault.TheVariants.{Foreign}
use Rattle.registry_rules.specs.History.{History}
use Rattle.registry_rows.specs.declared.meta.Meta.{Meta}
use Rattle.registry_rows.specs.Rows.{meta_key}
use Rattle.registry_rows.specs.Tables.{Tables}
use Rattle.registry_tables.specs.Rows.{meta_of, AreRecords, IsRecorded}
use Rattle.table_laws.specs.Making.{HasMore}
use Rattle.registry_old_rows.specs.Old.{old_span_key, with_version, at_version}
use Rattle.registry_old_rows.specs.Between.{HoldsFirst, HoldsSecond}
use Rattle.registry_old_rows.specs.Steps.{Second, IsHeld}
use Rattle.registry_rows.specs.Steps.{Tells}
use Rattle.registry_old_rows.proofs.AgreeLemmas.{agree_1}
use Rattle.registry_tables.specs.Versions.{IsFirst, HoldsOf}
use Rattle.registry_tables.specs.Raising.{IsMarked, Raises}
use Rattle.registry_tables.proofs.SpreadLemmas.{owned, owned_listed, spread_apart, put_all_spans}
use Rattle.registry_tables.proofs.ThirdLemmas.{meta_by}

-- the table of spans exists and is empty
abbrev pub unspanned : Tables → Tables
unspanned t = record t { spans = [] }

pub second_begins : (vid : ℕ) (a b : Database) (t : Tables) (numbers : List ℕ) → HasMore schema_1 (spans_table ∷ []) a b → HoldsFirst vid a t numbers → HoldsSecond vid b (unspanned t) numbers
second_begins vid a b t numbers more has =
    let first = agree_1 vid b.trees a.trees t numbers more.kept has.rows in
    record {
      schema = more.is;
      sound = more.sound;
      rows = record {
        first = record { lasting = record { metas = first.lasting.metas; curators = first.lasting.curators; licences = first.lasting.licences; fixed = first.lasting.fixed; orgs = first.lasting.orgs; kept = first.lasting.kept }; petitions = first.petitions; entries = first.entries; reserved = first.reserved };
        spans = record { rows_are = more.empty.0; keyed = tt; valid = tt };
      };
    }

-- the same values with these spans
abbrev pub with_parts : ℕ → List Span → Tables → Tables
with_parts vid parts t = record t { spans = map (owned vid) parts }

-- the values are still the records of the history
pub records_with : (h : History) (t : Tables) (numbers : List ℕ) → AreRecords h t → ((n : Number) → list_any (Rattle.registry_tables.specs.Rows.vendor_span_has n) t.spans ≡ Rattle.registry_old_rows.specs.Old.is_listed h.founding.vendor numbers n)
    → (parts : List Span) → IsSpread 1 parts → ((n : ℕ) → spans_have parts n ≡ list_any (nat_eq n) numbers) → AreRecords h (with_parts h.founding.vendor parts t)
records_with h t numbers had reserved parts spread same = record {
  founding = had.founding;
  metas = had.metas;
  curators = had.curators;
  licences = had.licences;
  fixed = had.fixed;
  orgs = had.orgs;
  vendors = had.vendors;
  spans = record {
    each = λ n. owned_listed h.founding.vendor n parts numbers (same n.pid) ∙ sym (reserved n) ∙ had.spans.each n;
    apart = spread_apart h.founding.vendor 1 parts spread;
  };
  entries = had.entries;
  petitions = had.petitions;
  reasons = had.reasons;
}

pub marked_first : (db : Database) (h : History) → HoldsOf 1 db h → (t : Tables) × IsFirst h.founding.vendor db t × AreRecords h t × IsRecorded h t
unfolding HoldsOf
marked_first db h (t, inl first, had, kept) = (t, first.1, had, kept)
marked_first db h (t, inr (inl second), had, kept) = absurd (let e = second.0 in omega (arith, e))
marked_first db h (t, inr (inr (inl third)), had, kept) = absurd (let e = third.0 in omega (arith, e))
marked_first db h (t, inr (inr (inr (inl fourth))), had, kept) = absurd (let e = fourth.0 in omega (arith, e))
marked_first db h (t, inr (inr (inr (inr fifth))), had, kept) = absurd (let e = fifth.0 in omega (arith, e))

-- the values after the table is created
abbrev begun_values : History → Tables → List ℕ → Second
begun_values h t numbers = record { vid = h.founding.vendor; tables = unspanned (with_version 1 t); numbers = numbers }

module _ (a s1 : State) (one : a.now.schema ≡ schema_1 → HasMore schema_1 (spans_table ∷ []) a.now s1.now) where
  begun_marked : (h : History) (t : Tables) (first : IsFirst h.founding.vendor a.now t) → AreRecords h t → IsMarked 1 s1.now (begun_values h t first.numbers)
  begun_marked h t first had = record {
    held = second_begins h.founding.vendor a.now s1.now (with_version 1 t) first.numbers (one first.holds.schema) first.holds;
    meta = at_version 1 (meta_of h);
    only = ap (map (at_version 1)) had.metas;
    named = refl;
  }

  -- a store whose meta does not name the first schema has no rows in it
  pub first_refused : (new : State) (e : TableFault) → IsTrue a.is_open → Tells s1 new (IsMarked 1 s1.now) (Err e) (λ x (m : Meta). x.tables.metas ≡ m ∷ []) → Raises 1 a new {A = Unit {0}} (Err e)
  first_refused new e was read foreign =
      let none = read.0 foreign in
      (was, λ h rows. (let it = marked_first a.now h rows in none.1 _ (begun_marked h it.0 it.1 it.2)))

  module _ (s2 : State) (meta : Meta) (told : (x : Second) → IsMarked 1 s1.now x → IsUnchanged s1 s2 × (x.tables.metas ≡ meta ∷ [])) where
    pub kept_held : (h : History) (t : Tables) (first : IsFirst h.founding.vendor a.now t) → AreRecords h t → IsHeld s2.now (begun_values h t first.numbers)
    kept_held h t first had =
        let marked = begun_marked h t first had in
        subst (λ d. IsHeld d (begun_values h t first.numbers)) (sym (told _ marked).0.0.now_is) marked.held

    pub numbers_refused : (new : State) (e : TableFault) → IsTrue a.is_open → (e ≡ Foreign → GoesOn s2 new × ((x : Second) → ¬ IsHeld s2.now x)) × StaysInside s2 new → Raises 1 a new {A = Unit {0}} (Err e)
    numbers_refused new e was read foreign =
        let none = read.0 foreign in
        (was, λ h rows. (let it = marked_first a.now h rows in none.1 _ (kept_held h it.0 it.1 it.2)))

    pub first_raised : (s3 s4 s5 s6 : State) (given : List ℕ) (parts : List Span)
        → ((x : Second) → IsHeld s2.now x → IsUnchanged s2 s3 × (given ≡ x.numbers))
        → IsSpread 1 parts → ((n : ℕ) → spans_have parts n ≡ list_any (nat_eq n) given)
        → ((vid : ℕ) → IsId vid → (t : Tables) (numbers : List ℕ) → HoldsSecond vid s3.now t numbers → HoldsSecond vid s4.now (record t { spans = fold (insert_by old_span_key) t.spans (map (owned vid) parts) }) numbers)
        → ((vid : ℕ) (t : Tables) (numbers : List ℕ) → HoldsSecond vid s4.now t numbers → HoldsSecond vid s5.now t [])
        → ((vid : ℕ) (t : Tables) (numbers : List ℕ) → HoldsSecond vid s5.now t numbers → HoldsSecond vid s6.now (record t { metas = insert_by meta_key t.metas (meta_by 2 meta.vendor meta.name) }) numbers)
        → (h : History) → HoldsOf 1 a.now h → HoldsOf 2 s6.now h
    unfolding HoldsOf
    first_raised s3 s4 s5 s6 given parts three spread same four five six h rows =
        let it = marked_first a.now h rows in
        let t = it.0 in
        let vid = h.founding.vendor in
        let numbers = it.1.numbers in
        let marked = begun_marked h t it.1 it.2 in
        let is : meta ≡ at_version 1 (meta_of h) = (let both : at_version 1 (meta_of h) ∷ [] ≡ meta ∷ [] = sym (ap (map (at_version 1)) it.2.metas) ∙ (told _ marked).1 in cc) in
        let held = kept_held h t it.1 it.2 in
        let read = three _ held in
        let begun = subst (λ d. HoldsSecond vid d (unspanned (with_version 1 t)) numbers) (sym read.0.0.now_is) held in
        let own : IsId vid = (subst (λ ms. Rattle.std.specs.List.AllByRecursion Rattle.registry_rows.specs.Rows.IsMeta ms) (ap (map (at_version 1)) it.2.metas) begun.rows.first.lasting.metas.valid).0.vendor in
        let put = four vid own _ _ begun in
        let left = five vid _ _ put in
        let said = six vid _ _ left in
        let filled : fold (insert_by old_span_key) [] (map (owned vid) parts) ≡ map (owned vid) parts = put_all_spans vid 1 parts spread in
        let metas : insert_by meta_key (map (at_version 1) t.metas) (meta_by 2 meta.vendor meta.name) ≡ map (at_version 2) t.metas =
        ap (λ l. insert_by meta_key (map (at_version 1) l) (meta_by 2 meta.vendor meta.name)) it.2.metas ∙ ap (λ (m : Meta). meta_by 2 m.vendor m.name ∷ []) is ∙ sym (ap (map (at_version 2)) it.2.metas) in
        let holds : HoldsSecond vid s6.now (with_version 2 (with_parts vid parts t)) [] =
        subst (λ ms. HoldsSecond vid s6.now (record t { spans = map (owned vid) parts; metas = ms }) []) metas
        (subst (λ ss. HoldsSecond vid s6.now (record t { spans = ss; metas = insert_by meta_key (map (at_version 1) t.metas) (meta_by 2 meta.vendor meta.name) }) []) filled said) in
        (with_parts vid parts t, inr (inl (refl, record { one = it.1.one; older = record { times = it.1.older.times; reasons = it.1.older.reasons; opened = it.1.older.opened; closed = it.1.older.closed }; holds = holds })), records_with h t numbers it.2 it.1.reserved parts spread (λ n. same n ∙ ap (list_any (nat_eq n)) read.1), record { kept = it.3.kept; digests = it.3.digests; times = it.3.times })
