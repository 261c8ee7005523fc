-- CREATE TABLE adds its table.
use Rattle.std.proofs.Common.{◌≡◌, ℕ, false, List, [], ◌∷◌, ◌++◌, fold, None, Ok, Result, sym, ap, subst, ◌∙◌}
use Rattle.sqlite_trees.proofs.ListLemmas.{all_both, all-append}
use Rattle.sqlite_schema.specs.declared.schema.Table.{Table}
use Rattle.sqlite_schema.specs.declared.schema.Schema.{Schema}
use Rattle.sqlite_schema.specs.declared.command.Command.TheVariants.{CreateTable}
use Rattle.sqlite_resolve.specs.declared.error.CompileError.{CompileError}
use Rattle.sqlite_resolve.specs.Compile.{table_defined_by}
use Rattle.std.specs.List.{AllByRecursion}
use Rattle.sqlite_trees.specs.Tree.{Trees}
use Rattle.sqlite_catalog.specs.Listing.{IsSound}
use Rattle.sqlite_catalog.specs.Change.{created, next_tree, KeepsRows}
use Rattle.sqlite.specs.Effect.{Database}
use Rattle.sqlite.specs.Does.{Tally, lacks_sequence}
use Rattle.sqlite.specs.State.{State, Executes, Writes}
use Rattle.sqlite.specs.Listing.{understood}
use Rattle.sqlite.proofs.Callers.{IsPlain, command_of, statement_of, runs_as}
use Rattle.table_laws.specs.Making.{IsBlank, HasMade, HasMore, Adds, AddsTo}
use Rattle.table_laws.proofs.InsideLemmas.{goes_then}
use Rattle.table_laws.proofs.PartLemmas.{same_ok, went}

-- under the schema the text is a single CREATE TABLE, of this table
pub record Makes (schema : Schema) (sql : List ℕ) (table : Table) : Type 0 where
  pub command : command_of (understood schema sql) ≡ CreateTable
  pub whole : statement_of sql (understood schema sql) ≡ sql
  pub plain : IsPlain (understood schema sql)
  pub defined : table_defined_by sql ≡ Ok (record table { tree = 0 })
  pub uncounted : lacks_sequence (created schema (record table { tree = 0 })) ≡ false

pub creates : (old new : State) (schema : Schema) → old.now.schema ≡ schema → (sql : List ℕ) (table : Table) → Makes schema sql table → (count : ℕ) → Executes sql [] old new (Ok count)
    → HasMade schema table old.now new.now
creates old new schema has sql table makes count h =
    let w = subst (λ t. Writes old new None CreateTable t [] count) makes.whole (runs_as sql [] old new schema has CreateTable makes.command makes.plain count h) in
    let all = went w.changed in
    let first = went all.1 in
    let made = first.1 in
    let both : ◌≡◌ {A = Result Table CompileError} (Ok made.table) (Ok (record table { tree = 0 })) = sym made.defined ∙ makes.defined in
    let is : first.0.schema ≡ created schema table = made.is ∙ ap (λ s. created s made.table) has ∙ ap (created schema) (same_ok both) in
    let plain : lacks_sequence first.0.schema ≡ false = ap lacks_sequence is ∙ makes.uncounted in
    let now : new.now ≡ first.0 = ap (λ (p : Tally × Database). p.1) (same_ok all.2) ∙ same_ok (rw plain at first.2) in
    let same : new.now.schema ≡ created schema table = ap (λ (d : Database). d.schema) now ∙ is in
    record {
      is = same;
      sound = subst (λ s. IsSound s new.now.trees) same w.sound;
      empty = ap (λ (d : Database). d.trees (next_tree schema)) now ∙ subst (λ s. first.0.trees (next_tree s) ≡ []) has made.empty;
      others = subst (λ (d : Database). KeepsRows schema.tables old.now.trees d.trees) (sym now) (subst (λ (s : Schema). KeepsRows s.tables old.now.trees first.0.trees) has made.others);
    }

-- if no table had a row before, none has one after
pub adds_blank : (old new : State) (schema : Schema) (sql : List ℕ) (table : Table) → Makes schema sql table → (count : ℕ) → Executes sql [] old new (Ok count) → IsBlank schema old.now
    → IsBlank (created schema table) new.now
adds_blank old new schema sql table makes count h blank =
    let made = creates old new schema blank.is sql table makes count h in
    record {
      is = made.is;
      sound = made.sound;
      none = all-append (λ (t : Table). new.now.trees t.tree ≡ []) schema.tables _
          (all_both (λ (t : Table). new.now.trees t.tree ≡ old.now.trees t.tree) (λ (t : Table). old.now.trees t.tree ≡ []) (λ (t : Table). new.now.trees t.tree ≡ []) (λ t a b. a ∙ b) schema.tables made.others blank.none)
          (made.empty, tt);
    }

-- one step of creating the tables after another
pub adds_then : (before mid after : Schema) (a b c : State) → Adds before mid a b → Adds mid after b c → Adds before after a c
adds_then before mid after a b c p q = (goes_then a b c p.0 q.0, λ blank. q.1 (p.1 blank))

-- ---- added to tables that have rows

-- one added table
pub has_one : (schema : Schema) (table : Table) (old new : Database) → table.tree ≡ next_tree schema → HasMade schema table old new → HasMore schema (table ∷ []) old new
has_one schema table old new at made = record { is = made.is; sound = made.sound; kept = made.others; empty = (subst (λ n. new.trees n ≡ []) (sym at) made.empty, tt) }

pub front_kept : (xs ys : List Table) (a b : Trees) → KeepsRows (xs ++ ys) a b → KeepsRows xs a b
front_kept [] ys a b h = tt
front_kept (x ∷ xs) ys a b h = (h.0, front_kept xs ys a b h.1)

pub kept_then : (xs : List Table) (a b c : Trees) → KeepsRows xs a b → KeepsRows xs b c → KeepsRows xs a c
kept_then [] a b c p q = tt
kept_then (x ∷ xs) a b c p q = (q.0 ∙ p.0, kept_then xs a b c p.1 q.1)

-- if no table had a row before, none has one after
pub adds_more : (schema : Schema) (added : List Table) (a b : State) → (fold created schema added).tables ≡ schema.tables ++ added → AddsTo schema added a b → Adds schema (fold created schema added) a b
adds_more schema added a b tables adds = (
  adds.0,
  λ blank.
      (let more = adds.1 blank.is in
      record {
        is = more.is;
        sound = more.sound;
        none = subst (AllByRecursion (λ (t : Table). b.now.trees t.tree ≡ [])) (sym tables) (all-append (λ (t : Table). b.now.trees t.tree ≡ []) schema.tables added
            (all_both (λ (t : Table). b.now.trees t.tree ≡ a.now.trees t.tree) (λ (t : Table). a.now.trees t.tree ≡ []) (λ (t : Table). b.now.trees t.tree ≡ []) (λ t p q. p ∙ q) schema.tables more.kept blank.none)
            more.empty);
      }),
)
