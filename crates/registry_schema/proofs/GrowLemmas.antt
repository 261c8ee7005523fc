-- Tables added to a schema, and then more.
use Rattle.std.proofs.Common.{◌≡◌, ◌++◌, fold, List, [], ◌∷◌, sym, subst, ◌∙◌}
use Rattle.std.proofs.lemmas.List.Sums.{fold-append}
use Rattle.sqlite_schema.specs.declared.schema.Table.{Table}
use Rattle.sqlite_schema.specs.declared.schema.Schema.{Schema}
use Rattle.sqlite_catalog.specs.Change.{created, KeepsRows}
use Rattle.sqlite_catalog.specs.Listing.{IsSound}
use Rattle.sqlite_trees.specs.Tree.{Trees}
use Rattle.sqlite_trees.proofs.ListLemmas.{all_both, all-append}
use Rattle.sqlite.specs.Effect.{Database}
use Rattle.sqlite.specs.State.{State}
use Rattle.table_laws.specs.Making.{HasMore, AddsTo}
use Rattle.table_laws.proofs.InsideLemmas.{goes_then}
use Rattle.table_laws.proofs.MakeLemmas.{front_kept, kept_then}

back_kept : (xs ys : List Table) (a b : Trees) → KeepsRows (xs ++ ys) a b → KeepsRows ys a b
back_kept [] ys a b h = h
back_kept (x ∷ xs) ys a b h = back_kept xs ys a b h.1

module _ (schema : Schema) (xs ys : List Table) (tables : (fold created schema xs).tables ≡ schema.tables ++ xs) where
  has_both : (a b c : Database) → HasMore schema xs a b → HasMore (fold created schema xs) ys b c → HasMore schema (xs ++ ys) a c
  has_both a b c one two =
      let same : fold created schema (xs ++ ys) ≡ fold created (fold created schema xs) ys = fold-append created schema xs ys in
      let kept : KeepsRows (schema.tables ++ xs) b.trees c.trees = subst (λ ts. KeepsRows ts b.trees c.trees) tables two.kept in
      record {
        is = two.is ∙ sym same;
        sound = subst (λ s. IsSound s c.trees) (sym same) two.sound;
        kept = kept_then schema.tables a.trees b.trees c.trees one.kept (front_kept schema.tables xs b.trees c.trees kept);
        empty = all-append (λ (t : Table). c.trees t.tree ≡ []) xs ys
            (all_both (λ (t : Table). c.trees t.tree ≡ b.trees t.tree) (λ (t : Table). b.trees t.tree ≡ []) (λ (t : Table). c.trees t.tree ≡ []) (λ t p q. p ∙ q) xs (back_kept schema.tables xs b.trees c.trees kept) one.empty) two.empty;
      }

  -- the tables of both steps
  pub adds_both : (a b c : State) → AddsTo schema xs a b → AddsTo (fold created schema xs) ys b c → AddsTo schema (xs ++ ys) a c
  adds_both a b c one two = (goes_then a b c one.0 two.0, λ has. (let first = one.1 has in has_both a.now b.now c.now first (two.1 first.is)))
