-- The statements that create tables, one after another.
use Rattle.std.proofs.Common.{◌≡◌, ◌++◌, ℕ, IsTrue, fold, List, [], ◌∷◌, Result, Ok, ◌∙◌, arith}
use Rattle.std.specs.Borrow.{MutBor}
use Rattle.std.proofs.lemmas.Result.{on_ok_weaker}
use Rattle.sqlite_trees.specs.declared.store.Store.{Ghosts}
use Rattle.sqlite_schema.specs.declared.schema.Table.{Table}
use Rattle.sqlite_schema.specs.declared.schema.Schema.{Schema}
use Rattle.sqlite_catalog.specs.Change.{created, next_tree}
use Rattle.sqlite.specs.Held.{Held, state}
use Rattle.sqlite.specs.State.{State, HasCleanDisk, ExecutesInside}
use Rattle.sqlite.proofs.StateLemmas.{survives_then}
use Rattle.table_laws.specs.Inside.{GoesOn, CommitsNothing}
use Rattle.table_laws.specs.Making.{Adds, AddsTo}
use Rattle.table_laws.proofs.MakeLemmas.{Makes, creates, has_one, adds_blank, adds_then, adds_more}
use Rattle.registry_schema.specs.declared.fault.TableFault.{TableFault}
use Rattle.registry_schema.specs.Steps.{WritesTables}
use Rattle.registry_schema.proofs.GrowLemmas.{adds_both}

-- one statement
module _ {S : Type 0} {g : Ghosts S} {old new : MutBor (Held S)} (same : new.ghost_name ≡ old.ghost_name) (quiet : CommitsNothing (state g old.now) (state g new.now)) {schema : Schema} {sql : List ℕ} {table : Table} (makes : Makes schema sql table) (count : ℕ)
    (runs : HasCleanDisk (state g new.now) → IsTrue (state g old.now).in_transaction → ExecutesInside 0 sql [] (state g old.now) (state g new.now) (Ok count)) {A : Type 0} {a : A} where
  pub makes_blank : WritesTables g old new (Ok a) (Adds schema (created schema table))
  makes_blank = record {
    same_reference = same;
    done = λ clean inside. (let ran = runs clean inside in (ran.1, adds_blank (state g old.now) (state g new.now) schema sql table makes count ran.0));
    fault = λ never. absurd cc;
    survives = quiet;
  }

  pub makes_one : table.tree ≡ next_tree schema → WritesTables g old new (Ok a) (AddsTo schema (table ∷ []))
  makes_one at = record {
    same_reference = same;
    done = λ clean inside. (let ran = runs clean inside in (ran.1, λ has. has_one schema table (state g old.now).now (state g new.now).now at (creates (state g old.now) (state g new.now) schema has sql table makes count ran.0)));
    fault = λ never. absurd cc;
    survives = quiet;
  }

-- one step after another
module _ {S : Type 0} {g : Ghosts S} {a b c : MutBor (Held S)} {A B : Type 0} {x : A} {r : Result B TableFault} where
  both_done : {One Two Both : State → State → Type 0} → (One (state g a.now) (state g b.now) → GoesOn (state g a.now) (state g b.now)) → (One (state g a.now) (state g b.now) → Two (state g b.now) (state g c.now) → Both (state g a.now) (state g c.now))
      → WritesTables g a b (Ok x) One → WritesTables g b c r Two → WritesTables g a c r Both
  both_done goes joins one two = record {
    same_reference = two.same_reference ∙ one.same_reference;
    done = λ clean inside. (let first = one.done (omega (arith, two.survives.clean)) inside in on_ok_weaker r (joins first) (two.done clean (goes first).mode));
    fault = two.fault;
    survives = survives_then (state g a.now) (state g b.now) (state g c.now) _ _ (λ _. ⊥) (λ _ db none. none) (λ _ db none. none) one.survives two.survives;
  }

  pub then_blank : {before mid after : Schema} → WritesTables g a b (Ok x) (Adds before mid) → WritesTables g b c r (Adds mid after) → WritesTables g a c r (Adds before after)
  then_blank {before} {mid} {after} = both_done (λ one. one.0) (adds_then before mid after (state g a.now) (state g b.now) (state g c.now))

  pub then_more : {schema : Schema} {xs ys : List Table} → (fold created schema xs).tables ≡ schema.tables ++ xs
      → WritesTables g a b (Ok x) (AddsTo schema xs) → WritesTables g b c r (AddsTo (fold created schema xs) ys) → WritesTables g a c r (AddsTo schema (xs ++ ys))
  then_more {schema} {xs} {ys} tables = both_done (λ one. one.0) (adds_both schema xs ys tables (state g a.now) (state g b.now) (state g c.now))

-- in a database without rows
pub more_blank : {S : Type 0} {g : Ghosts S} {a b : MutBor (Held S)} {A : Type 0} {r : Result A TableFault} {schema : Schema} {added : List Table} → (fold created schema added).tables ≡ schema.tables ++ added
    → WritesTables g a b r (AddsTo schema added) → WritesTables g a b r (Adds schema (fold created schema added))
more_blank {S} {g} {a} {b} {A} {r} {schema} {added} tables one = record {
  same_reference = one.same_reference;
  done = λ clean inside. on_ok_weaker r (adds_more schema added (state g a.now) (state g b.now) tables) (one.done clean inside);
  fault = one.fault;
  survives = one.survives;
}
