-- A connection that shows the rows of a history has the table meta. What an opening or a founding that failed leaves.
use Rattle.std.proofs.Common.{◌≡◌, ◌⊎◌, ◌∙◌, inl, inr, Bool, false, refl, true≢false, ℕ, IsTrue, true, ap, arith, subst, sym}
use Rattle.sqlite.specs.Held.{Held, state}
use Rattle.sqlite.specs.State.{State, HasCleanDisk, IsLive, Survives}
use Rattle.sqlite.specs.Store.{Ghosts}
use Rattle.sqlite.specs.Tree.{Trees}
use Rattle.registry_schema.specs.Meta.{has_meta_table}
use Rattle.registry_schema.proofs.VersionLemmas.{has_schema_1, has_schema_2, has_schema_3, has_schema_4, has_schema_5, meta_first, meta_second, meta_third, meta_fourth, meta_fifth}
use Rattle.std.specs.Prelude.{◌≢◌}
use Rattle.table_laws.specs.Inside.{CommitsNothing}
use Rattle.registry_rules.specs.declared.founding.Founding.{Founding}
use Rattle.registry_rules.specs.History.{History}
use Rattle.registry_rows.specs.Tables.{Tables}
use Rattle.registry_tables.specs.Raising.{CommitsLater, IsNamedOlder}
use Rattle.registry_tables.specs.Rows.{HasValues, Rows}
use Rattle.registry_store.specs.declared.fault.Fault.{Fault}
use Rattle.registry_store.specs.declared.fault.Fault.TheVariants as faults
use Rattle.registry_store.specs.declared.registry.Registry.{Registry}
use Rattle.registry_store.specs.Promise.{IsFreshAt, LeavesLater}
use Rattle.registry_commands.specs.declared.messages.Failure.{Failure}
use Rattle.registry_commands.specs.declared.messages.Failure.TheVariants.{Foreign}
use Rattle.registry_commands.specs.Messages.{failure_of}
use Rattle.registry_commands.specs.Failures.{IsOfOpening}
use Rattle.registry_commands.specs.Replayed.{CommitsFirst, CommitsIfEmpty, CommitsIfOlder, IsFoundOrOpen, IsLeftByOpening, IsLeftFound, IsOpen}
use Rattle.registry_store.proofs.OpeningLemmas.{at_rest}

has_meta : (vid version : ℕ) (t : Tables) (s : State) → IsLive s → IsTrue s.is_open → HasValues version vid s.now.trees t → has_meta_table s.now.schema ≡ true
has_meta vid version t s live is_open (inl is) = ap has_meta_table (has_schema_1 s live is_open is.1.has) ∙ meta_first
has_meta vid version t s live is_open (inr (inl is)) = ap has_meta_table (has_schema_2 s live is_open is.1.has) ∙ meta_second
has_meta vid version t s live is_open (inr (inr (inl is))) = ap has_meta_table (has_schema_3 s live is_open is.1.has) ∙ meta_third
has_meta vid version t s live is_open (inr (inr (inr (inl is)))) = ap has_meta_table (has_schema_4 s live is_open is.1.has) ∙ meta_fourth
has_meta vid version t s live is_open (inr (inr (inr (inr is)))) = ap has_meta_table (has_schema_5 s live is_open is.1.has) ∙ meta_fifth

rows_meta : (version : ℕ) (s : State) (h : History) → IsLive s → IsTrue s.is_open → Rows version s.now.trees h → has_meta_table s.now.schema ≡ true
unfolding Rows
rows_meta version s h live is_open rows = has_meta h.founding.vendor version rows.0 s live is_open rows.1

pub fresh_meta : (version : ℕ) (s : State) (h : History) → IsLive s → IsFreshAt version s h → HasCleanDisk s → has_meta_table s.now.schema ≡ true
fresh_meta version s h live fresh clean =
    let shown = fresh clean in
    rows_meta version s h live shown.0 (subst (λ db. Rows version db.trees h) (sym shown.1) shown.2)

-- what is not so is false
pub is_not : (b : Bool) → (IsTrue b → ⊥) → b ≡ false
is_not true not = absurd (not refl)
is_not false not = refl

-- a connection at rest leaves what it shows
pub fresh_leaves : {S : Type 0} (g : Ghosts S) (conn : Held S) (version : ℕ) (h : History)
    → ((s : S) (db : Trees) → IsTrue (g.view s).is_open → g.recovers s db → db ≡ (g.view s).committed)
    → IsFreshAt version (state g conn) h → HasCleanDisk (state g conn) → LeavesLater version (state g conn) h
fresh_leaves g conn version h settled fresh clean db may =
    let left = (at_rest g conn version h settled fresh).left clean db may in
    (version, omega arith, subst (λ (x : History). Rows version db x) left.1 left.2)

-- the failure is Foreign only for that fault
pub foreign_fault : (fault : Fault) → failure_of fault ≡ Foreign → fault ≡ faults.Foreign
foreign_fault faults.Foreign told = refl
foreign_fault faults.Store told = absurd (cc told)
foreign_fault faults.NoMemory told = absurd (cc told)
foreign_fault faults.Taken told = absurd (cc told)
foreign_fault faults.Poisoned told = absurd (cc told)

-- what a fault that is neither of these two is told as
pub of_opening : (fault : Fault) → fault ≢ faults.Poisoned → fault ≢ faults.Taken → IsOfOpening (failure_of fault)
of_opening faults.Store sound free = tt
of_opening faults.NoMemory sound free = tt
of_opening faults.Foreign sound free = tt
of_opening faults.Taken sound free = absurd (free refl)
of_opening faults.Poisoned sound free = absurd (sound refl)

-- ---- what was committed

pub survives_as : (old new : State) (P R : Trees → Type 0) → ((db : Trees) → P db → R db) → Survives old new P → Survives old new R
survives_as old new P R more is = record {
  clean = is.clean;
  shield = is.shield;
  counts = is.counts;
  limit = is.limit;
  closes = is.closes;
  crash = λ clean db may. elim (is.crash clean db may) [ inl before ↦ inl before | inr made ↦ inr (more db made) ];
}

pub if_older : (old new : State) → Survives old new (CommitsLater old) → IsNamedOlder old ⊎ CommitsNothing old new → Survives old new (CommitsIfOlder old)
if_older old new later named = elim named [
  | inl older ↦ survives_as old new (CommitsLater old) (CommitsIfOlder old) (λ db made. (older, made)) later
  | inr nothing ↦ survives_as old new (λ db. ⊥) (CommitsIfOlder old) (λ db none. absurd none) nothing
]

module _ {S : Type 0} (g : Ghosts S) (conn : Held S) (founding : Founding) where
  module _ (there : Held S) (same : there ≡ conn) where
    left_same : (failure : Failure) (last : Held S) → IsLeftByOpening g (CommitsIfOlder (state g conn)) conn failure last → IsLeftFound g conn founding failure last
    left_same failure last is = record {
      kind = is.kind;
      idle = is.idle;
      busy = is.busy;
      survives = survives_as _ _ (CommitsIfOlder (state g conn)) (CommitsFirst founding (state g conn)) (λ db made. inr made) is.survives;
      leaves = is.leaves;
      clean = is.clean;
      foreign = is.foreign;
    }

    opened_same : has_meta_table (state g conn).now.schema ≡ true → (it : Registry S g) → IsOpen g conn it → IsFoundOrOpen g conn founding it
    opened_same meta it is = record {
      is_new = is.is_new;
      idle = is.idle;
      survives = survives_as _ _ (CommitsIfOlder (state g conn)) (CommitsFirst founding (state g conn)) (λ db made. inr made) is.survives;
      empty = λ none. absurd (true≢false (sym meta ∙ none));
      opened = λ live. is.opened;
      founds = λ none. absurd (true≢false (sym meta ∙ none));
      known = inr is.known;
      clean = is.clean;
    }

    -- the registry that is there was opened
    pub opened_there : has_meta_table (state g conn).now.schema ≡ true → (it : Registry S g) → IsOpen g there it → IsFoundOrOpen g conn founding it
    opened_there meta it is = opened_same meta it (subst (λ (c : Held S). IsOpen g c it) same is)

    -- the registry that is there could not be opened
    pub left_there : (failure : Failure) (last : Held S) → IsLeftByOpening g (CommitsIfOlder (state g there)) there failure last → IsLeftFound g conn founding failure last
    left_there failure last is = left_same failure last (subst (λ (c : Held S). IsLeftByOpening g (CommitsIfOlder (state g c)) c failure last) same is)

  -- A founding failed. Where the connection shows a history it is left as it was.
  pub left_found : (last : Held S) (fault : Fault) (failure : Failure) → failure ≡ failure_of fault → (fault ≢ faults.Poisoned) × (fault ≢ faults.Foreign) → fault ≢ faults.Taken
      → ((s : S) (db : Trees) → IsTrue (g.view s).is_open → g.recovers s db → db ≡ (g.view s).committed)
      → (has_meta_table (state g conn).now.schema ≡ false) ⊎ IsTrue conn.in_transaction
      → (conn.in_transaction ≡ false → last.in_transaction ≡ false) → (IsTrue conn.in_transaction → (fault ≡ faults.Store) × (last ≡ conn))
      → Survives (state g conn) (state g last) (CommitsIfEmpty founding (state g conn)) → IsLeftFound g conn founding failure last
  left_found last fault failure failure_is kind free settled untaken idle busy survives =
      let was : HasCleanDisk (state g last) → HasCleanDisk (state g conn) = λ clean. omega (arith, survives.clean, clean) in
      record {
        kind = subst IsOfOpening (sym failure_is) (of_opening fault kind.0 free);
        idle = idle;
        busy = λ inside. let left = busy inside in (failure_is ∙ ap failure_of left.0, left.1);
        survives = survives_as _ _ (CommitsIfEmpty founding (state g conn)) (CommitsFirst founding (state g conn)) (λ db made. inl made) survives;
        leaves = λ live version h legal fresh clean.
            let same : last ≡ conn = elim untaken [
              | inl none ↦ absurd (true≢false (sym (fresh_meta version (state g conn) h live fresh (was clean)) ∙ none))
              | inr inside ↦ (busy inside).1
            ] in
            subst (λ (c : Held S). LeavesLater version (state g c) h) (sym same) (fresh_leaves g conn version h settled fresh (was clean));
        clean = was;
        foreign = λ told. absurd (kind.1 (foreign_fault fault (sym failure_is ∙ told)));
      }
