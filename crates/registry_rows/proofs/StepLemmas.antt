-- From what a statement did or showed to what a call does within a transaction.
use Rattle.std.proofs.Common.{arith, ◌≡◌, ◌≢◌, ◌⊎◌, sym, ap, subst, Bool, true, false, cond, ℕ, zero, suc, take, drop, IsTrue, List, [], ◌∷◌, map, filter, find, slice_get, Option, Result, Ok, Err, inl, inr, MatchBool, MatchResult, Vec, Global, Ordering, is_gt, ◌∙◌}
use Rattle.std.specs.Prelude.{IsErrAnd}
use Rattle.std.specs.Borrow.{MutBor}
use Rattle.std.specs.List.{AllByRecursion}
use Rattle.std.proofs.lemmas.Result.{err_from_is_err_and}
use Rattle.sqlite_trees.specs.declared.store.Store.{Ghosts}
use Rattle.sqlite_keyed.specs.Lists.{insert_sorted, sort_by}
use Rattle.sqlite_keyed.proofs.ListLemmas.{all-filter, slice_get-filter}
use Rattle.sqlite.specs.Effect.{Database}
use Rattle.sqlite.specs.Query.{Query}
use Rattle.sqlite.specs.Schema.{Schema}
use Rattle.sqlite.specs.Held.{Held, state}
use Rattle.sqlite.specs.Order.{Row}
use Rattle.sqlite.specs.declared.error.Error.{Error}
use Rattle.sqlite.specs.State.{State, HasCleanDisk, IsUnchanged, Shown, FailsToQuery, IsTooLate, Executes, ExecutesInside}
use Rattle.table_laws.specs.Inside.{CommitsNothing, GoesOn, StaysInside, StoreFailed}
use Rattle.table_laws.proofs.InsideLemmas.{kept_or_undone, unchanged_goes, unchanged_inside, undone_after, goes_then, quiet_then, query_goes, query_fails}
use Rattle.table_laws.proofs.StatementLemmas.{IsSelect}
use Rattle.table_laws.proofs.FailLemmas.{IsExcused, IsTyped, query_stops, violation_keeps}
use Rattle.registry_schema.specs.Faults.{IsFaultOf}
use Rattle.registry_schema.specs.declared.fault.TableFault.{TableFault}
use Rattle.registry_schema.specs.declared.fault.TableFault.TheVariants.{Store, Foreign}
use Rattle.registry_rows.specs.Steps.{Decodes, Tells, Changes, IsInserted, Inserts, WritesWithin, ReadsWithin, ReadsRows}
use Rattle.registry_rows.specs.Columns.{DecodesFirst, DecodesAll}
use Rattle.registry_rows.specs.Tables.{Tables, Holds}

-- an error that is told as Store is not out of memory
store_failed : (old new : State) (error : Error) (fault : TableFault) → IsFaultOf error fault → fault ≡ Store → IsExcused old new error → StoreFailed old new
store_failed old new error fault of is (inl memory) = absurd (let never = sym is ∙ of.0.1 memory in cc)
store_failed old new error fault of is (inr failed) = failed

module _ {S : Type 0} {g : Ghosts S} {old new : MutBor (Held S)} (same : new.ghost_name ≡ old.ghost_name) (quiet : CommitsNothing (state g old.now) (state g new.now)) where
  -- a statement that was executed
  pub wrote : {A : Type 0} {a : A} {Does : State → State → Type 0} → (HasCleanDisk (state g new.now) → IsTrue (state g old.now).in_transaction → Does (state g old.now) (state g new.now)) → WritesWithin g old new (Ok a) Does
  wrote done = record { same_reference = same; done = done; fault = λ never. absurd cc; survives = quiet }

  -- one that changed the tables
  pub changed : {A : Type 0} {a : A} (sql : List ℕ) (params : Row) (count : ℕ) {after : Tables → Tables}
      → (HasCleanDisk (state g new.now) → IsTrue (state g old.now).in_transaction → ExecutesInside 0 sql params (state g old.now) (state g new.now) (Ok count))
      → (Executes sql params (state g old.now) (state g new.now) (Ok count) → (t : Tables) → Holds (state g old.now).now t → Holds (state g new.now).now (after t)) → WritesWithin g old new (Ok a) (Changes after)
  changed sql params count runs after = wrote (λ clean inside. (let ran = runs clean inside in (ran.1, after ran.0)))

  -- an INSERT, by what it told
  pub inserts : (sql : List ℕ) (params : Row) {after : Tables → Tables} (ran : Result ℕ Error) (result : Result Bool TableFault) → IsInserted ran result
      → (HasCleanDisk (state g new.now) → IsTrue (state g old.now).in_transaction → ExecutesInside 0 sql params (state g old.now) (state g new.now) ran)
      → ((count : ℕ) → Executes sql params (state g old.now) (state g new.now) (Ok count) → (t : Tables) → Holds (state g old.now).now t → Holds (state g new.now).now (after t)) → Inserts g old new result (Changes after)
  inserts sql params {after} ran result told runs means = record {
    same_reference = same;
    done = λ clean inside. by ran result told (runs clean inside) inside;
    fault = known ran result told;
    survives = quiet;
  }
    where
      known : (ran : Result ℕ Error) (r : Result Bool TableFault) → IsInserted ran r → r ≢ Err Foreign
      known (Ok n) (Ok b) told never = absurd cc
      known (Ok n) (Err fault) told never = absurd told
      known (Err e) (Ok b) told never = absurd cc
      known (Err e) (Err fault) told never = absurd (let is : fault ≡ Foreign = cc in told.1 is)

      by : (ran : Result ℕ Error) (r : Result Bool TableFault) → IsInserted ran r → ExecutesInside 0 sql params (state g old.now) (state g new.now) ran → IsTrue (state g old.now).in_transaction
          → MatchResult r (λ inserted. MatchBool inserted (Changes after (state g old.now) (state g new.now)) (IsUnchanged (state g old.now) (state g new.now))) (λ _. StaysInside (state g old.now) (state g new.now))
      by (Ok n) (Ok true) told runs inside = (runs.1, means n runs.0)
      by (Ok n) (Ok false) told runs inside = absurd (let never = told in cc)
      by (Ok n) (Err fault) told runs inside = absurd told
      by (Err e) (Ok true) told runs inside = absurd (let never = told.0 in cc)
      by (Err e) (Ok false) told runs inside = violation_keeps sql params (state g old.now) (state g new.now) told.1 (subst (λ why. ExecutesInside 0 sql params (state g old.now) (state g new.now) (Err why)) told.2 runs)
      by (Err e) (Err fault) told (inl runs) inside = kept_or_undone (state g old.now) (state g new.now) inside runs.1
      by (Err e) (Err fault) told (inr runs) inside = inl (unchanged_goes (state g old.now) (state g new.now) inside runs.2)

  -- a query that showed rows, and one that failed
  module _ {X : Type 0} {Is : Database → X → Type 0} {shown : X → List Row} (sql : List ℕ) (params : Row) where
    pub shows : {rows : Vec Row Global} → (HasCleanDisk (state g new.now) → Shown sql params (state g old.now) (state g new.now) rows.items)
        → (Shown sql params (state g old.now) (state g new.now) rows.items → (x : X) → Is (state g old.now).now x → IsUnchanged (state g old.now) (state g new.now) × (rows.items ≡ shown x)) → ReadsRows g old new (Ok rows) Is shown
    shows {rows} ok means = record {
      reads = record { same_reference = same; told = λ clean inside. (query_goes (state g old.now) (state g new.now) inside sql params rows.items (ok clean), means (ok clean)); survives = quiet };
      fault = λ never. absurd cc;
    }

    pub shows_nothing : {schema : Schema} {q : Query} {names : List (List ℕ)} → IsSelect schema sql q names → IsTyped schema sql q params → ((x : X) → Is (state g old.now).now x → (state g old.now).now.schema ≡ schema)
        → {result : Result (Vec Row Global) TableFault} {error : Error} → IsErrAnd result (IsFaultOf error) → (HasCleanDisk (state g new.now) → FailsToQuery sql params (state g old.now) (state g new.now) error ⊎ IsTooLate sql params (state g old.now) (state g new.now) error) → ReadsRows g old new result Is shown
    shows_nothing {schema} {q} {names} text typed known {result} {error} of err =
        let failed = err_from_is_err_and result of in
        subst (λ r. ReadsRows g old new r Is shown) (sym failed.1) (record {
          reads = record { same_reference = same; told = λ clean inside. (λ foreign. absurd (failed.2.1 foreign), query_fails (state g old.now) (state g new.now) inside sql params error (err clean), λ is x has. store_failed (state g old.now) (state g new.now) error failed.0 failed.2 is (query_stops (state g old.now) (state g new.now) sql params schema (known x has) q names text typed error (err clean))); survives = quiet };
          fault = λ foreign. absurd (failed.2.1 cc);
        })

-- ---- an INSERT, and what is done where another row has the key

module _ {S : Type 0} {g : Ghosts S} {a b : MutBor (Held S)} {Does : State → State → Type 0} where
  pub wrote_once : {A : Type 0} {it : A} → Inserts g a b (Ok true) Does → WritesWithin g a b (Ok it) Does
  wrote_once one = record { same_reference = one.same_reference; done = one.done; fault = λ never. absurd cc; survives = one.survives }

  pub insert_failed : {A : Type 0} {result : Result A TableFault} {fault : TableFault} → result ≡ Err fault → Inserts g a b (Err fault) Does → WritesWithin g a b result Does
  insert_failed {A} {result} {fault} is one = subst (λ r. WritesWithin g a b r Does) (sym is) (record { same_reference = one.same_reference; done = one.done; fault = λ never. one.fault (let same : fault ≡ Foreign = cc in ap Err same); survives = one.survives })

pub wrote_instead : {S : Type 0} {g : Ghosts S} {a b c : MutBor (Held S)} {A : Type 0} {result : Result A TableFault} {after : Tables → Tables}
    → Inserts g a b (Ok false) (Changes after) → WritesWithin g b c result (Changes after) → WritesWithin g a c result (Changes after)
wrote_instead {S} {g} {a} {b} {c} {A} {result} {after} one other = record {
  same_reference = other.same_reference ∙ one.same_reference;
  done = λ clean inside. (
      let same = one.done (omega (arith, clean, other.survives.clean)) inside in
      told (state g a.now) (state g b.now) (state g c.now) result inside same (other.done clean (unchanged_inside (state g a.now) (state g b.now) same inside)));
  fault = other.fault;
  survives = quiet_then (state g a.now) (state g b.now) (state g c.now) one.survives other.survives;
}
  where
    told : (x y z : State) (r : Result A TableFault) → IsTrue x.in_transaction → IsUnchanged x y → MatchResult r (λ _. Changes after y z) (λ _. StaysInside y z) → MatchResult r (λ _. Changes after x z) (λ _. StaysInside x z)
    told x y z (Ok it) inside same did = (goes_then x y z (unchanged_goes x y inside same) did.0, λ t has. did.1 t (subst (λ db. Holds db t) (sym same.0.now_is) has))
    told x y z (Err e) inside same (inl goes) = inl (goes_then x y z (unchanged_goes x y inside same) goes)
    told x y z (Err e) inside same (inr undone) = inr (undone_after x y z same undone)

-- ---- the values that rows store

module _ {V X : Type 0} (IsValid : V → Type 0) (show : V → Row) (old new : State) (Held : X → Type 0) (rows : List Row) (pick : X → List V)
    (read : GoesOn old new × ((x : X) → Held x → IsUnchanged old new × (rows ≡ map show (pick x)))) (valid : (x : X) → Held x → AllByRecursion IsValid (pick x)) where
  tells_first : (result : Result (Option V) TableFault) → ((values : List V) → AllByRecursion IsValid values → rows ≡ map show values → Decodes result (slice_get values 0)) → result ≢ Err Store
      → Tells old new Held result (λ x found. found ≡ slice_get (pick x) 0)
  tells_first (Ok found) decodes kind = (read.0, λ x has. (let h = read.1 x has in (h.0, decodes (pick x) (valid x has) h.1)))
  tells_first (Err fault) decodes kind = (λ foreign. (read.0, λ x has. decodes (pick x) (valid x has) (read.1 x has).1 foreign), inl read.0, λ is. absurd (kind (ap Err is)))

  tells_all : {A : Type 0} (items : A → List V) (result : Result A TableFault)
      → ((values : List V) → AllByRecursion IsValid values → rows ≡ map show values → MatchResult result (λ all. items all ≡ values) (λ fault. fault ≢ Foreign)) → result ≢ Err Store
      → Tells old new Held result (λ x all. items all ≡ pick x)
  tells_all items (Ok all) decodes kind = (read.0, λ x has. (let h = read.1 x has in (h.0, decodes (pick x) (valid x has) h.1)))
  tells_all items (Err fault) decodes kind = (λ foreign. (read.0, λ x has. decodes (pick x) (valid x has) (read.1 x has).1 foreign), inl read.0, λ is. absurd (kind (ap Err is)))

-- a result that satisfies one relation satisfies a weaker one
pub tells_as : {A X : Type 0} (old new : State) (Held : X → Type 0) (Says Also : X → A → Type 0) (result : Result A TableFault) → ((x : X) (a : A) → Says x a → Also x a) → Tells old new Held result Says → Tells old new Held result Also
tells_as old new Held Says Also (Ok a) means h = (h.0, λ x has. (let it = h.1 x has in (it.0, means x a it.1)))
tells_as old new Held Says Also (Err e) means h = h

module _ {S : Type 0} {g : Ghosts S} {old new : MutBor (Held S)} {V X : Type 0} (IsValid : V → Type 0) (show : V → Row) {Is : Database → X → Type 0} {rows : Vec Row Global} where
  -- all rows read as all values
  pub reads_all_by : (pick : X → List V) → ReadsRows g old new (Ok rows) Is (λ x. map show (pick x)) → ((x : X) → Is (state g old.now).now x → AllByRecursion IsValid (pick x)) → {A : Type 0} (items : A → List V) {result : Result A TableFault}
      → ((values : List V) → AllByRecursion IsValid values → rows.items ≡ map show values → MatchResult result (λ all. items all ≡ values) (λ fault. fault ≢ Foreign)) → result ≢ Err Store → ReadsWithin g old new result Is (λ x all. items all ≡ pick x)
  reads_all_by pick read valid {A} items {result} decodes kind =
      record { same_reference = read.reads.same_reference; told = λ clean inside. tells_all IsValid show (state g old.now) (state g new.now) (Is (state g old.now).now) rows.items pick (read.reads.told clean inside) valid items result decodes kind; survives = read.reads.survives }

  pub reads_all : (pick : X → List V) → ReadsRows g old new (Ok rows) Is (λ x. map show (pick x)) → ((x : X) → Is (state g old.now).now x → AllByRecursion IsValid (pick x)) → {A : Type 0} (items : A → List V) {result : Result A TableFault}
      → DecodesAll IsValid show rows.items items result → ReadsWithin g old new result Is (λ x all. items all ≡ pick x)
  reads_all pick read valid items decoded = reads_all_by pick read valid items decoded.decodes decoded.fault

  -- the first of them reads as the value that the test finds
  pub reads_first : (test : V → Bool) (all : X → List V) → ReadsRows g old new (Ok rows) Is (λ x. map show (filter test (all x))) → ((x : X) → Is (state g old.now).now x → AllByRecursion IsValid (all x)) → {result : Result (Option V) TableFault}
      → DecodesFirst IsValid show rows.items result → ReadsWithin g old new result Is (λ x found. found ≡ find test (all x))
  reads_first test all read valid {result} decoded = record {
    same_reference = read.reads.same_reference;
    told = λ clean inside. tells_as (state g old.now) (state g new.now) (Is (state g old.now).now) (λ x found. found ≡ slice_get (filter test (all x)) 0) (λ x found. found ≡ find test (all x)) result (λ x found is. is ∙ slice_get-filter test (all x)) (tells_first IsValid show (state g old.now) (state g new.now) (Is (state g old.now).now) rows.items (λ x. filter test (all x)) (read.reads.told clean inside) (λ x has. all-filter IsValid test (all x) (valid x has)) result decoded.decodes decoded.fault);
    survives = read.reads.survives;
  }

-- one read as another
pub reads_by : {S : Type 0} {g : Ghosts S} {old new : MutBor (Held S)} {A B X Y : Type 0} {r : Result A TableFault} {s : Result B TableFault} {Is : Database → X → Type 0} {Are : Database → Y → Type 0} {Says : X → A → Type 0} {Also : Y → B → Type 0}
    → (Tells (state g old.now) (state g new.now) (Is (state g old.now).now) r Says → Tells (state g old.now) (state g new.now) (Are (state g old.now).now) s Also) → ReadsWithin g old new r Is Says → ReadsWithin g old new s Are Also
reads_by retell read = record { same_reference = read.same_reference; told = λ clean inside. retell (read.told clean inside); survives = read.survives }

-- ---- values picked from valid ones are valid

module _ {X : Type 0} (IsValid : X → Type 0) where
  pub valid_first : (most : ℕ) (values : List X) → AllByRecursion IsValid values → AllByRecursion IsValid (take most values)
  valid_first zero values all = tt
  valid_first (suc most) [] all = tt
  valid_first (suc most) (x ∷ xs) all = (all.0, valid_first most xs all.1)

  valid_rest : (after : ℕ) (values : List X) → AllByRecursion IsValid values → AllByRecursion IsValid (drop after values)
  valid_rest zero values all = all
  valid_rest (suc after) [] all = tt
  valid_rest (suc after) (x ∷ xs) all = valid_rest after xs all.1

  pub valid_part : (most after : ℕ) (values : List X) → AllByRecursion IsValid values → AllByRecursion IsValid (take most (drop after values))
  valid_part most after values all = valid_first most (drop after values) (valid_rest after values all)

  inserted : (cmp : X → X → Ordering) (new : X) (values : List X) → IsValid new → AllByRecursion IsValid values → AllByRecursion IsValid (insert_sorted cmp new values)
  inserted cmp new [] h all = (h, tt)
  inserted cmp new (x ∷ xs) h all = elim (is_gt (cmp new x)) as (λ b. AllByRecursion IsValid (cond b (x ∷ insert_sorted cmp new xs) (new ∷ x ∷ xs))) [ true ↦ (all.0, inserted cmp new xs h all.1) | false ↦ (h, all) ]

  pub valid_sorted : (cmp : X → X → Ordering) (values : List X) → AllByRecursion IsValid values → AllByRecursion IsValid (sort_by cmp values)
  valid_sorted cmp [] all = tt
  valid_sorted cmp (x ∷ xs) all = inserted cmp x (sort_by cmp xs) all.0 (valid_sorted cmp xs all.1)
