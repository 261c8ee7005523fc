-- One write of a transaction after another.
use Rattle.std.proofs.Common.{Result, Ok, Err, OnOk, MatchResult, ◌∙◌, arith}
use Rattle.std.specs.Borrow.{MutBor}
use Rattle.sqlite_trees.specs.declared.store.Store.{Ghosts}
use Rattle.sqlite.specs.Held.{Held, state}
use Rattle.sqlite.specs.State.{State}
use Rattle.table_laws.specs.Inside.{GoesOn}
use Rattle.table_laws.proofs.InsideLemmas.{goes_then}
use Rattle.registry_schema.specs.declared.fault.TableFault.{TableFault}
use Rattle.registry_schema.specs.Steps.{WritesTables}
use Rattle.registry_rows.specs.Steps.{Changes, WritesWithin}
use Rattle.registry_rows.specs.Tables.{Tables}
use Rattle.registry_tables.specs.Calls.{WritesTablesOpen}
use Rattle.registry_tables.proofs.ReadLemmas.{quiet_then}

pub done_as : {A : Type 0} (r : Result A TableFault) (R : Type 0) {P Q : Type 0} → (P → Q) → MatchResult r (λ _. P) (λ _. R) → OnOk r Q
done_as (Ok a) R means done = means done
done_as (Err e) R means done = tt

pub ok_as : {A : Type 0} (r : Result A TableFault) {P Q : Type 0} → (P → Q) → OnOk r P → OnOk r Q
ok_as (Ok a) means done = means done
ok_as (Err e) means done = tt

module _ {S : Type 0} {g : Ghosts S} {a b : MutBor (Held S)} {A : Type 0} {r : Result A TableFault} where
  -- a write of rows is one of the tables
  pub written : {Does Also : State → State → Type 0} → (Does (state g a.now) (state g b.now) → Also (state g a.now) (state g b.now)) → WritesWithin g a b r Does → WritesTables g a b r Also
  written means one = record { same_reference = one.same_reference; done = λ clean inside. done_as r _ means (one.done clean inside); fault = one.fault; survives = one.survives }

  pub written_open : {Does Also : State → State → Type 0} → (Does (state g a.now) (state g b.now) → Also (state g a.now) (state g b.now)) → WritesWithin g a b r Does → WritesTablesOpen g a b r Also
  written_open means one = record { same_reference = one.same_reference; done = λ clean inside _. done_as r _ means (one.done clean inside); fault = one.fault; survives = one.survives }

pub as_tables : {S : Type 0} {g : Ghosts S} {a b : MutBor (Held S)} {A : Type 0} {r : Result A TableFault} {Does : State → State → Type 0} → WritesWithin g a b r Does → WritesTables g a b r Does
as_tables = written (λ done. done)

both_changed : (a b c : State) (f h : Tables → Tables) → Changes f a b → Changes h b c → Changes (λ t. h (f t)) a c
both_changed a b c f h one two = (goes_then a b c one.0 two.0, λ t had. two.1 (f t) (one.1 t had))

-- one change after another
pub then_changes : {S : Type 0} {g : Ghosts S} {a b c : MutBor (Held S)} {A B : Type 0} {x : A} {y : B} {f h : Tables → Tables}
    → WritesTables g a b (Ok x) (Changes f) → WritesTablesOpen g b c (Ok y) (Changes h) → WritesTables g a c (Ok y) (Changes (λ t. h (f t)))
then_changes {S} {g} {a} {b} {c} {A} {B} {x} {y} {f} {h} one two = record {
  same_reference = two.same_reference ∙ one.same_reference;
  done = λ clean inside. (let first = one.done (omega (arith, two.survives.clean)) inside in both_changed (state g a.now) (state g b.now) (state g c.now) f h first (two.done clean first.0.mode first.0.is_open));
  fault = λ never. absurd cc;
  survives = quiet_then (state g a.now) (state g b.now) (state g c.now) one.survives two.survives;
}

-- the writes of a loop: what was done so far, and one more
pub one_more : {S : Type 0} {g : Ghosts S} {a b c : MutBor (Held S)} {A B C : Type 0} {x : A} {y : B} {z : C} {Does More Also : State → State → Type 0} → WritesTablesOpen g a b (Ok x) Does → WritesTables g b c (Ok y) More
    → (Does (state g a.now) (state g b.now) → GoesOn (state g a.now) (state g b.now)) → (Does (state g a.now) (state g b.now) → More (state g b.now) (state g c.now) → Also (state g a.now) (state g c.now)) → WritesTablesOpen g a c (Ok z) Also
one_more {S} {g} {a} {b} {c} so_far one goes adds = record {
  same_reference = one.same_reference ∙ so_far.same_reference;
  done = λ clean inside is_open. (let first = so_far.done (omega (arith, one.survives.clean)) inside is_open in adds first (one.done clean (goes first).mode));
  fault = λ never. absurd cc;
  survives = quiet_then (state g a.now) (state g b.now) (state g c.now) so_far.survives one.survives;
}

-- all of them
pub all_done : {S : Type 0} {g : Ghosts S} {a b : MutBor (Held S)} {A B : Type 0} {x : A} {y : B} {Does Also : State → State → Type 0} → (Does (state g a.now) (state g b.now) → Also (state g a.now) (state g b.now))
    → WritesTablesOpen g a b (Ok x) Does → WritesTablesOpen g a b (Ok y) Also
all_done means one = record { same_reference = one.same_reference; done = λ clean inside is_open. means (one.done clean inside is_open); fault = λ never. absurd cc; survives = one.survives }
