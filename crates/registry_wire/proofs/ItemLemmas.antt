-- Reading the items of an array one by one.
use Rattle.std.proofs.Common.{◌≡◌, ℕ, suc, ◌+◌, ◌<◌, List, [], ◌∷◌, ◌++◌, length, drop, get_or, Option, Some, None, refl, sym, ap, ◌∙◌, append_assoc, drop-cons, add-one}
use Rattle.std.specs.Prelude.{option_map, option_and_then}
use Rattle.std.proofs.lemmas.List.{append-nil}
use Rattle.std.proofs.Math.Seq.{drop-length}
use Rattle.toml.specs.Data.{Data, Items, item}
use Rattle.toml.specs.View.{view, items_view}
use Rattle.toml.specs.declared.value.Value.{Value}
use Rattle.registry_wire.specs.Founding.{all_of_kind}

-- puts the items that were read before in front of the later ones
abbrev pub with_front : {A : Type 0} → List A → Option (List A) → Option (List A)
with_front front found = option_map (λ others. front ++ others) found

pub items_step : (values : List Value) (i : ℕ) (value : Value) → i < length values → value ≡ get_or values i value → items_view (drop i values) ≡ item (view value) (items_view (drop (i + 1) values))
items_step values i value within is = rw add-one (ap items_view (drop-cons values i value within) ∙ ap (λ (x : Value). item (view x) (items_view (drop (suc i) values))) (sym is))

pub front_grows : {A : Type 0} (front : List A) (x : A) (found : Option (List A)) → with_front front (option_map (λ xs. x ∷ xs) found) ≡ with_front (front ++ x ∷ []) found
front_grows front x None = refl
front_grows front x (Some others) = ap (λ ys. Some ys) (sym (append_assoc front (x ∷ []) others))

pub all_of_kind_more : {A : Type 0} (kind : Data → Option A) (front : List A) (x : A) (first : Data) (others : Items) → Some x ≡ kind first → with_front front (all_of_kind kind (item first others)) ≡ with_front (front ++ x ∷ []) (all_of_kind kind others)
unfolding all_of_kind
all_of_kind_more {A} kind front x first others is = ap (λ (found : Option A). with_front front (option_and_then (λ x. option_map (λ xs. x ∷ xs) (all_of_kind kind others)) found)) (sym is) ∙ front_grows front x (all_of_kind kind others)

pub all_of_kind_none : {A : Type 0} (kind : Data → Option A) (front : List A) (first : Data) (others : Items) → None ≡ kind first → with_front front (all_of_kind kind (item first others)) ≡ None
unfolding all_of_kind
all_of_kind_none {A} kind front first others is = ap (λ (found : Option A). with_front front (option_and_then (λ x. option_map (λ xs. x ∷ xs) (all_of_kind kind others)) found)) (sym is)

pub all_of_kind_end : {A : Type 0} (kind : Data → Option A) (front : List A) (values : List Value) (i : ℕ) → i ≡ length values → with_front front (all_of_kind kind (items_view (drop i values))) ≡ Some front
unfolding all_of_kind
all_of_kind_end {A} kind front values i e = rw (e, drop-length values) (ap (λ (xs : List A). Some xs) (append-nil front))
