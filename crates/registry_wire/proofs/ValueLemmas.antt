-- Reading the values of an array of JSON one by one.
use Rattle.std.proofs.Common.{◌≡◌, ℕ, suc, ◌+◌, ◌<◌, ◌≢◌, List, [], ◌∷◌, ◌++◌, length, drop, get_or, Option, Some, None, refl, sym, ap, ◌∙◌, drop-cons, add-one}
use Rattle.std.specs.Prelude.{option_map, option_and_then}
use Rattle.std.proofs.lemmas.List.{append-nil}
use Rattle.std.proofs.Math.Seq.{drop-length}
use Rattle.serde_json.specs.Data.{Data, Items, item}
use Rattle.serde_json.specs.View.{view, items_view}
use Rattle.serde_json.specs.declared.value.Value.{Value}
use Rattle.registry_wire.specs.Record.{all_from, item_of_pair}
use Rattle.registry_wire.proofs.ItemLemmas.{with_front, front_grows}

pub value_step : (values : List Value) (i : ℕ) (value : Value) → i < length values → value ≡ get_or values i value → items_view (drop i values) ≡ item (view value) (items_view (drop (i + 1) values))
value_step values i value within is = rw add-one (ap items_view (drop-cons values i value within) ∙ ap (λ (x : Value). item (view x) (items_view (drop (suc i) values))) (sym is))

pub all_from_more : {A : Type 0} (kind : Data → Option A) (front : List A) (x : A) (first : Data) (others : Items) → Some x ≡ kind first → with_front front (all_from kind (item first others)) ≡ with_front (front ++ x ∷ []) (all_from kind others)
unfolding all_from
all_from_more {A} kind front x first others is = ap (λ (found : Option A). with_front front (option_and_then (λ x. option_map (λ xs. x ∷ xs) (all_from kind others)) found)) (sym is) ∙ front_grows front x (all_from kind others)

pub all_from_none : {A : Type 0} (kind : Data → Option A) (front : List A) (first : Data) (others : Items) → None ≡ kind first → with_front front (all_from kind (item first others)) ≡ None
unfolding all_from
all_from_none {A} kind front first others is = ap (λ (found : Option A). with_front front (option_and_then (λ x. option_map (λ xs. x ∷ xs) (all_from kind others)) found)) (sym is)

pub all_from_end : {A : Type 0} (kind : Data → Option A) (front : List A) (values : List Value) (i : ℕ) → i ≡ length values → with_front front (all_from kind (items_view (drop i values))) ≡ Some front
unfolding all_from
all_from_end {A} kind front values i e = rw (e, drop-length values) (ap (λ (xs : List A). Some xs) (append-nil front))

-- an array of another length is no item
pub no_pair : (pair : List Value) → length pair ≢ 2 → None ≡ item_of_pair (items_view pair)
no_pair [] other = refl
no_pair (code ∷ []) other = refl
no_pair (code ∷ title ∷ []) other = absurd (other refl)
no_pair (code ∷ title ∷ third ∷ rest) other = refl
