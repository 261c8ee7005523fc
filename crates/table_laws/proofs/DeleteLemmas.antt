-- What DELETE does to the values that a table stores.
use Rattle.std.proofs.Common.{◌≡◌, ℕ, ℤ, pos, negsuc, Bool, true, false, not, List, [], ◌∷◌, map, filter, fold, None, refl, sym, ap, subst, subst₂, ◌∙◌}
use Rattle.std.specs.List.{list_all}
use Rattle.std.specs.List.Sorted.{IsPermutation}
use Rattle.std.proofs.lemmas.List.Sorted.{IsPermutation-map}
use Rattle.sqlite.specs.declared.types.Value.TheVariants.{Int}
use Rattle.sqlite.specs.Order.{Row}
use Rattle.sqlite.specs.Tree.{Trees, rowid}
use Rattle.sqlite.specs.Term.{Term, lit, col, holds}
use Rattle.sqlite.specs.Query.{Query, Output, inner, end, output, IsAnswer}
use Rattle.sqlite.specs.Edit.{without_all, id_in}
use Rattle.sqlite_rules.specs.Calls.{ids_of}
use Rattle.sqlite_trees.proofs.ListLemmas.{along_permutation}
use Rattle.sqlite_keyed.specs.Lists.{without_key, delete_where}
use Rattle.sqlite_keyed.proofs.KeyedLemmas.{IsKeyedBy-delete_where}
use Rattle.sqlite_keyed.proofs.WriteLemmas.{removes_delete}
use Rattle.sqlite_keyed.proofs.ListLemmas.{map-map, map_same, all-filter}
use Rattle.sqlite_typed.proofs.AnswerLemmas.{matches_are}
use Rattle.sqlite_typed.proofs.RowLemmas.{deletes-map}
use Rattle.table_laws.specs.Stored.{Stores}
use Rattle.table_laws.proofs.ReadLemmas.{source}

filter_swap : {A : Type 0} (p q : A → Bool) (xs : List A) → filter p (filter q xs) ≡ filter q (filter p xs)
filter_swap p q [] = refl
filter_swap {A} p q (x ∷ xs) = go (p x) refl (q x) refl (filter_swap p q xs)
  where
    go : (a : Bool) → p x ≡ a → (b : Bool) → q x ≡ b → filter p (filter q xs) ≡ filter q (filter p xs) → filter p (filter q (x ∷ xs)) ≡ filter q (filter p (x ∷ xs))
    go true e true f more = rw (e, f) (rw e (ap (λ l. x ∷ l) more))
    go true e false f more = rw (e, f) more
    go false e true f more = rw (e, f) (rw e more)
    go false e false f more = rw (e, f) more

-- the rowids of the rows WHERE these terms
abbrev pub ids_query : ℕ → List Term → Query
ids_query tree terms = record {
  from = inner tree end;
  filter = terms;
  group = None;
  project = col 1 0 ∷ [];
  distinct = false;
  collations = [];
  order = [];
  limit = lit (Int (negsuc 0));
  offset = lit (Int (pos 0));
}

module _ {X : Type 0} (IsValid : X → Type 0) (key : X → ℤ) (row : X → Row) (keyed : (x : X) → rowid (row x) ≡ Int (key x)) where
  pub in_any_order : (ids later : List ℤ) → IsPermutation ids later → (xs : List X) → fold (without_key key) xs ids ≡ fold (without_key key) xs later
  in_any_order = along_permutation (λ a b. (xs : List X) → fold (without_key key) xs a ≡ fold (without_key key) xs b) (λ ids xs. refl)
      (λ id a b h xs. h (without_key key xs id)) (λ i j ids xs. ap (λ l. fold (without_key key) l ids) (filter_swap _ _ xs)) (λ a b c p q xs. p xs ∙ q xs)

  module _ (db : Trees) (tree : ℕ) (xs : List X) (stored : Stores IsValid key row (db tree) xs) where
    found_ids : (terms : List Term) (params : Row) (p : X → Bool) → ((x : X) → list_all (holds (params ∷ row x ∷ [])) terms ≡ p x)
        → (found : List Row) → IsAnswer (ids_query tree terms) db params found → IsPermutation (map key (filter p xs)) (ids_of found)
    found_ids terms params p tests found answer =
        let q = ids_query tree terms in
        let env = λ (x : X). params ∷ row x ∷ [] in
        let staged : answer.staged ≡ map env (filter p xs) = answer.grouped ∙ matches_are q db params (source IsValid key row db tree xs stored) p tests in
        let kept : answer.kept ≡ map (output q) (map env (filter p xs)) = answer.distinct ∙ ap (map (output q)) staged in
        let out = λ (o : Output). id_in (rowid o.1) in
        let all = subst (λ k. IsPermutation k answer.ordered) kept answer.same in
        let l = filter p xs in
        let ids = IsPermutation-map out _ answer.ordered all in
        let left : map out (map (output q) (map env l)) ≡ map key l = ap (map out) (map-map (output q) env l) ∙ map-map out (λ (x : X). output q (env x)) l ∙ map_same _ key (λ x. ap id_in (keyed x)) l in
        let right : map out answer.ordered ≡ ids_of found = sym (ap ids_of answer.shown ∙ map-map (λ (r : Row). id_in (rowid r)) (λ (o : Output). o.1) answer.ordered) in
        subst₂ (λ a b. IsPermutation a b) left right ids

    pub deletes_stored : (terms : List Term) (params : Row) (p : X → Bool) → ((x : X) → list_all (holds (params ∷ row x ∷ [])) terms ≡ p x)
        → (found : List Row) → IsAnswer (ids_query tree terms) db params found → Stores IsValid key row (without_all (db tree) (ids_of found)) (delete_where p xs)
    deletes_stored terms params p tests found answer = record {
      rows_are = ap (λ all. without_all all (ids_of found)) stored.rows_are ∙ deletes-map key row keyed (ids_of found) xs
          ∙ ap (map row) (sym (in_any_order _ _ (found_ids terms params p tests found answer) xs) ∙ removes_delete key p xs stored.keyed);
      keyed = IsKeyedBy-delete_where key p xs stored.keyed;
      valid = all-filter IsValid (λ x. not (p x)) xs stored.valid;
    }
