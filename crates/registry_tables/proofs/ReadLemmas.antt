-- One look-up of a transaction after another.
use Rattle.std.proofs.Common.{◌≡◌, ◌≢◌, ◌⊎◌, ◌≤◌, inl, inr, true, false, IsSome, ℕ, Bool, Global, Vec, List, IsTrue, Result, Ok, Err, IfOk, refl, sym, ap, subst, ◌∙◌, arith}
use Rattle.std.specs.List.{list_any}
use Rattle.std.specs.Borrow.{MutBor}
use Rattle.sqlite_trees.specs.declared.store.Store.{Ghosts}
use Rattle.sqlite.specs.Held.{Held, state}
use Rattle.sqlite.specs.State.{State}
use Rattle.sqlite_keyed.specs.Lists.{sort_by}
use Rattle.usbnum_core.specs.Spans.{IsSpread}
use Rattle.usbnum_core.specs.declared.number.Number.{Number as NumberValue}
use Rattle.usbnum_core.specs.declared.number.Span.{Span}
use Rattle.table_laws.specs.Inside.{CommitsNothing, StoreFailed}
pub use Rattle.table_laws.proofs.InsideLemmas.{quiet_then}
use Rattle.registry_schema.specs.declared.fault.TableFault.{TableFault}
use Rattle.registry_schema.specs.declared.fault.TableFault.TheVariants.{Store, Foreign}
use Rattle.registry_rules.specs.History.{History}
use Rattle.registry_rules.specs.Query.{is_reserved_by_order}
use Rattle.registry_rules.specs.Run.{Legal}
use Rattle.registry_rules.specs.declared.record.Org.{Org}
use Rattle.registry_rules.specs.declared.record.Entry.{Entry}
use Rattle.registry_rows.specs.Rows.{by_slug, by_number, by_beginning}
use Rattle.registry_rows.specs.Steps.{ReadsWithin}
use Rattle.registry_rows.specs.Tables.{Tables, Holds}
use Rattle.registry_tables.specs.Finds.{ReadsHistory, ReadsHistoryOpen, TellsStore}
use Rattle.registry_tables.specs.Lists.{IsOrgList, IsNumberList}
use Rattle.registry_tables.specs.Rows.{newest, HoldsRows, AreRecords, AreKeptReplies, IsRecorded, vendor_span_has}
use Rattle.registry_tables.proofs.ListLemmas.{org_list, number_list}
use Rattle.registry_tables.proofs.OpeningLemmas.{spans_told}
use Rattle.registry_tables.proofs.FindLemmas.{finds_then, finds_ok, finds_as, fails_then, passes, passes_recorded, refuses, fails, short, tells, store_told}

module _ {S : Type 0} {g : Ghosts S} {a b : MutBor (Held S)} {A : Type 0} {P : History → A → Type 0} where
  pub opened : {r : Result A TableFault} → ReadsHistory g a b r P → ReadsHistoryOpen g a b r P
  opened one = record { same_reference = one.same_reference; found = λ clean inside _. one.found clean inside; survives = one.survives }

  -- a result that satisfies one relation satisfies a weaker one
  pub reads_as : {Also : History → A → Type 0} {r : Result A TableFault} → ((h : History) (x : A) → Legal h → P h x → Also h x) → ReadsHistory g a b r P → ReadsHistory g a b r Also
  reads_as {Also} {r} means one = record { same_reference = one.same_reference; found = λ clean inside. finds_as (state g a.now) (state g b.now) P Also r means (one.found clean inside); survives = one.survives }

  -- a result made of what was read, and a fault that is passed on
  module _ {B : Type 0} {Is : History → B → Type 0} where
    pub makes : {x : A} {y : B} → ((h : History) → Legal h → P h x → Is h y) → ReadsHistory g a b (Ok x) P → ReadsHistory g a b (Ok y) Is
    makes {x} {y} means one = record { same_reference = one.same_reference; found = λ clean inside. finds_ok (state g a.now) (state g b.now) P Is x y means (one.found clean inside); survives = one.survives }

    pub fails_first : {e : TableFault} {r : Result B TableFault} → r ≡ Err e → ReadsHistory g a b (Err e) P → ReadsHistory g a b r Is
    fails_first {e} {r} is one = subst (λ r. ReadsHistory g a b r Is) (sym is) (record { same_reference = one.same_reference; found = one.found; survives = one.survives })

-- from the tables to a history
module _ {S : Type 0} {g : Ghosts S} {a b : MutBor (Held S)} {A B : Type 0} {Says : Tables → A → Type 0} {Is : History → B → Type 0} where
  -- what the rows say is what the history says
  pub rows_pass : {x : A} {y : B} → ((h : History) (t : Tables) → Legal h → Holds (state g a.now).now t → AreRecords h t → AreKeptReplies h t.kept → Says t x → Is h y) → ReadsWithin g a b (Ok x) Holds Says → ReadsHistory g a b (Ok y) Is
  rows_pass {x} {y} means rows = record {
    same_reference = rows.same_reference;
    found = λ clean inside. passes (state g a.now) (state g b.now) Is (λ t. Says t x) y means (rows.told clean inside);
    survives = rows.survives;
  }

  -- the same, where the record counts
  pub recorded_pass : {x : A} {y : B} → ((h : History) (t : Tables) → Legal h → IsRecorded h t → Says t x → Is h y) → ReadsWithin g a b (Ok x) Holds Says → ReadsHistory g a b (Ok y) Is
  recorded_pass {x} {y} means rows = record {
    same_reference = rows.same_reference;
    found = λ clean inside. passes_recorded (state g a.now) (state g b.now) Is (λ t. Says t x) y means (rows.told clean inside);
    survives = rows.survives;
  }

  -- or it refutes every history
  pub rows_refuse : {x : A} → ((h : History) (t : Tables) → Legal h → Holds (state g a.now).now t → AreRecords h t → ¬ Says t x) → ReadsWithin g a b (Ok x) Holds Says → ReadsHistory g a b (Err Foreign) Is
  rows_refuse {x} never rows =
      record { same_reference = rows.same_reference; found = λ clean inside. refuses (state g a.now) (state g b.now) Is (λ t. Says t x) never (rows.told clean inside); survives = rows.survives }

  -- a fault of the rows, and one that comes after them
  pub rows_fail : {e : TableFault} {r : Result B TableFault} → r ≡ Err e → ReadsWithin g a b (Err e) Holds Says → ReadsHistory g a b r Is
  rows_fail {e} {r} is rows = subst (λ r. ReadsHistory g a b r Is) (sym is)
      (record { same_reference = rows.same_reference; found = λ clean inside. fails (state g a.now) (state g b.now) Is e (rows.told clean inside); survives = rows.survives })

  pub rows_short : {x : A} {e : TableFault} → e ≢ Foreign → ReadsWithin g a b (Ok x) Holds Says → ReadsHistory g a b (Err e) Is
  rows_short {x} {e} other rows =
      record { same_reference = rows.same_reference; found = λ clean inside. short (state g a.now) (state g b.now) Is e other (rows.told clean inside).0; survives = rows.survives }

-- the same of any result
pub rows_tell : {S : Type 0} {g : Ghosts S} {a b : MutBor (Held S)} {A : Type 0} {Says : Tables → A → Type 0} {Is : History → A → Type 0} {r : Result A TableFault}
    → ((h : History) (t : Tables) → Legal h → Holds (state g a.now).now t → AreRecords h t → (x : A) → Says t x → Is h x) → ReadsWithin g a b r Holds Says → ReadsHistory g a b r Is
rows_tell {S} {g} {a} {b} {A} {Says} {Is} {r} means rows =
    record { same_reference = rows.same_reference; found = λ clean inside. tells (state g a.now) (state g b.now) r Says Is means (rows.told clean inside); survives = rows.survives }

-- Store comes from the rows only if the store failed, whatever is made of them
pub rows_store : {S : Type 0} {g : Ghosts S} {a b : MutBor (Held S)} {A : Type 0} {Says : Tables → A → Type 0} {r : Result A TableFault} → ReadsWithin g a b r Holds Says → TellsStore g a b r
rows_store {S} {g} {a} {b} {A} {Says} {r} rows = record { store = λ clean inside. store_told (state g a.now) (state g b.now) r Says (rows.told clean inside) }

pub passes_store : {S : Type 0} {g : Ghosts S} {a b : MutBor (Held S)} {A B : Type 0} {e : TableFault} {r : Result B TableFault} → r ≡ Err e → TellsStore g a b {A = A} (Err e) → TellsStore g a b r
passes_store {S} {g} {a} {b} {A} {B} {e} {r} of tells = record { store = λ clean inside is. (let same : e ≡ Store = cc in tells.store clean inside (ap Err same)) }

pub fault_store : {S : Type 0} {g : Ghosts S} {a b : MutBor (Held S)} {A B : Type 0} {Says : Tables → A → Type 0} {e : TableFault} {r : Result B TableFault} → r ≡ Err e → ReadsWithin g a b (Err e) Holds Says → TellsStore g a b r
fault_store of rows = passes_store of (rows_store rows)

module _ {S : Type 0} {g : Ghosts S} {a b c : MutBor (Held S)} {A : Type 0} {P : History → A → Type 0} {x : A} where
  -- two look-ups as one, and a fault of the second as a fault of both
  pub then_open : {B : Type 0} {Q : History → B → Type 0} {r : Result B TableFault} → ReadsHistory g a b (Ok x) P → ReadsHistoryOpen g b c r Q → ReadsHistory g a c r (λ h y. P h x × Q h y)
  then_open {B} {Q} {r} one two = record {
    same_reference = two.same_reference ∙ one.same_reference;
    found = λ clean inside. (
        let first = one.found (omega (arith, two.survives.clean)) inside in
        finds_then (state g a.now) (state g b.now) (state g c.now) P Q x r first (two.found clean first.0.mode first.0.is_open));
    survives = quiet_then (state g a.now) (state g b.now) (state g c.now) one.survives two.survives;
  }

  pub fails_open : {B C : Type 0} {Q : History → B → Type 0} {Is : History → C → Type 0} {e : TableFault} {r : Result C TableFault} → r ≡ Err e → ReadsHistory g a b (Ok x) P → ReadsHistoryOpen g b c (Err e) Q
      → ReadsHistory g a c r Is
  fails_open {B} {C} {Q} {Is} {e} {r} is one two = subst (λ r. ReadsHistory g a c r Is) (sym is) (record {
    same_reference = two.same_reference ∙ one.same_reference;
    found = λ clean inside. (
        let first = one.found (omega (arith, two.survives.clean)) inside in
        fails_then (state g a.now) (state g b.now) (state g c.now) (λ h. P h x) first e Q Is (two.found clean first.0.mode first.0.is_open));
    survives = quiet_then (state g a.now) (state g b.now) (state g c.now) one.survives two.survives;
  })

-- a fault of a second look-up, if the connection is open
failed_since : (a b c : State) → a.faults ≤ b.faults → b.step_limit ≡ a.step_limit → IsTrue b.is_open → StoreFailed b c → StoreFailed a c
failed_since a b c le limit is_open (inl more) = inl (omega (arith, le, more))
failed_since a b c le limit is_open (inr (inl limited)) = inr (inl (subst IsSome limit limited))
failed_since a b c le limit is_open (inr (inr shut)) = absurd (let never = sym is_open ∙ shut in cc)

pub is_open_or_not : (b : Bool) → IsTrue b ⊎ (b ≡ false)
is_open_or_not true = inl refl
is_open_or_not false = inr refl

pub open_store : {S : Type 0} {g : Ghosts S} {a b c : MutBor (Held S)} {A B C : Type 0} {P : History → A → Type 0} {x : A} {e : TableFault} {r : Result C TableFault} → r ≡ Err e → ReadsHistoryOpen g a b (Ok x) P
    → CommitsNothing (state g b.now) (state g c.now) → TellsStore g b c {A = B} (Err e) → TellsStore g a c r
open_store {S} {g} {a} {b} {c} {A} {B} {C} {P} {x} {e} {r} of one quiet tells = record {
  store = λ clean inside is h legal rows. elim (is_open_or_not (state g a.now).is_open) [
    | inl is_open ↦ (
        let first = one.found (omega (arith, quiet.clean)) inside is_open in
        let unchanged = (first.1 h legal rows).0 in
        let same : e ≡ Store = cc in
        failed_since (state g a.now) (state g b.now) (state g c.now) one.survives.counts one.survives.limit first.0.is_open
        (tells.store clean first.0.mode (ap Err same) h legal (subst (λ db. HoldsRows newest db h) (sym unchanged.0.now_is) rows)))
    | inr shut ↦ inr (inr shut)
  ];
}

-- the same where the first look-up may need no read
module _ {S : Type 0} {g : Ghosts S} {a b c : MutBor (Held S)} {A : Type 0} {P : History → A → Type 0} {x : A} where
  pub open_then : {B : Type 0} {Q : History → B → Type 0} {r : Result B TableFault} → ReadsHistoryOpen g a b (Ok x) P → ReadsHistoryOpen g b c r Q → ReadsHistoryOpen g a c r (λ h y. P h x × Q h y)
  open_then {B} {Q} {r} one two = record {
    same_reference = two.same_reference ∙ one.same_reference;
    found = λ clean inside is_open. (
        let first = one.found (omega (arith, two.survives.clean)) inside is_open in
        finds_then (state g a.now) (state g b.now) (state g c.now) P Q x r first (two.found clean first.0.mode first.0.is_open));
    survives = quiet_then (state g a.now) (state g b.now) (state g c.now) one.survives two.survives;
  }

  pub open_fails : {B C : Type 0} {Q : History → B → Type 0} {Is : History → C → Type 0} {e : TableFault} {r : Result C TableFault} → r ≡ Err e → ReadsHistoryOpen g a b (Ok x) P → ReadsHistoryOpen g b c (Err e) Q
      → ReadsHistoryOpen g a c r Is
  open_fails {B} {C} {Q} {Is} {e} {r} is one two = subst (λ r. ReadsHistoryOpen g a c r Is) (sym is) (record {
    same_reference = two.same_reference ∙ one.same_reference;
    found = λ clean inside is_open. (
        let first = one.found (omega (arith, two.survives.clean)) inside is_open in
        fails_then (state g a.now) (state g b.now) (state g c.now) (λ h. P h x) first e Q Is (two.found clean first.0.mode first.0.is_open));
    survives = quiet_then (state g a.now) (state g b.now) (state g c.now) one.survives two.survives;
  })

-- the same results of one look-up that may need no read
module _ {S : Type 0} {g : Ghosts S} {a b : MutBor (Held S)} {A B : Type 0} {P : History → A → Type 0} {Is : History → B → Type 0} where
  pub makes_open : {x : A} {y : B} → ((h : History) → Legal h → P h x → Is h y) → ReadsHistoryOpen g a b (Ok x) P → ReadsHistoryOpen g a b (Ok y) Is
  makes_open {x} {y} means one = record { same_reference = one.same_reference; found = λ clean inside is_open. finds_ok (state g a.now) (state g b.now) P Is x y means (one.found clean inside is_open); survives = one.survives }

  -- a fault that comes after it
  pub falls_short : {x : A} {e : TableFault} → e ≢ Foreign → ReadsHistoryOpen g a b (Ok x) P → ReadsHistoryOpen g a b (Err e) Is
  falls_short {x} {e} other one = record { same_reference = one.same_reference; found = λ clean inside is_open. short (state g a.now) (state g b.now) Is e other (one.found clean inside is_open).0; survives = one.survives }

  pub fails_first_open : {e : TableFault} {r : Result B TableFault} → r ≡ Err e → ReadsHistoryOpen g a b (Err e) P → ReadsHistoryOpen g a b r Is
  fails_first_open {e} {r} is one = subst (λ r. ReadsHistoryOpen g a b r Is) (sym is) (record { same_reference = one.same_reference; found = one.found; survives = one.survives })

-- the tables that the totals are made of
module _ {S : Type 0} {g : Ghosts S} {a b : MutBor (Held S)} where
  pub orgs_read : {all : Vec Org Global} → ReadsWithin g a b (Ok all) Holds (λ t all. all.items ≡ sort_by by_slug t.orgs) → ReadsHistoryOpen g a b (Ok all) (λ h all. IsOrgList h all.items)
  orgs_read {all} rows = opened (rows_tell (λ h t legal has had all is. org_list h t.orgs had.orgs all.items is) rows)

  pub entries_read : {all : Vec (NumberValue × Entry) Global} → ReadsWithin g a b (Ok all) Holds (λ t all. all.items ≡ sort_by by_number t.entries) → ReadsHistoryOpen g a b (Ok all) (λ h all. IsNumberList h all.items)
  entries_read {all} rows = opened (rows_tell (λ h t legal has had all is. number_list h t.entries had.entries all.items is) rows)

  pub spans_read : {all : Vec (ℕ × Span) Global} → ReadsWithin g a b (Ok all) Holds (λ t all. all.items ≡ sort_by by_beginning t.spans)
      → ReadsHistoryOpen g a b (Ok all) (λ h all. (n : NumberValue) → list_any (vendor_span_has n) all.items ≡ is_reserved_by_order h n)
  spans_read {all} rows = opened (rows_tell (λ h t legal has had all is. spans_told h t had all.items is) rows)

  -- a fault, whatever would have been read
  pub rows_fault : {A : Type 0} {Says : Tables → A → Type 0} {e : TableFault} → ReadsWithin g a b (Err e) Holds Says → ReadsHistoryOpen g a b (Err e) (λ (h : History) (x : Bool). IsTrue x)
  rows_fault rows = opened (rows_fail refl rows)

  -- the fixed numbers, as a set
  pub fixed_tell : {all : Vec Span Global} (result : Result (List Span) TableFault) → (IsSpread 1 all.items → IfOk result (λ set. set ≡ all.items)) → result ≢ Err Foreign
      → ReadsWithin g a b (Ok all) Holds (λ t all. all.items ≡ t.fixed) → ReadsHistory g a b result (λ h fixed. fixed ≡ h.founding.fixed)
  fixed_tell (Ok set) same kind = rows_pass (λ h t legal has had kept is. (let founded = is ∙ had.fixed in same (subst (IsSpread 1) (sym founded) had.founding.fixed) ∙ founded))
  fixed_tell (Err e) same kind = rows_short (λ foreign. kind (ap Err foreign))
