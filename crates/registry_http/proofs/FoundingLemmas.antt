-- The arrays of a founding: they are made element by element, and have no float.
use Rattle.std.proofs.Common.{◌≡◌, ℕ, ◌+◌, ◌<◌, false, List, [], ◌∷◌, ◌++◌, length, take, get_or, map, refl, sym, ap, ◌∙◌}
use Rattle.std.proofs.lemmas.List.{map-append}
use Rattle.serde_json.specs.Data.{Data, string}
use Rattle.serde_json.specs.View.{view, items_of}
use Rattle.serde_json.specs.declared.value.Value.{Value}
use Rattle.serde_json.specs.Written.{items_have_float}
use Rattle.usbnum_core.specs.declared.number.Span.{Span}
use Rattle.registry_rules.specs.declared.record.Vendor.{Vendor}
use Rattle.registry_reports.proofs.ListLemmas.{Joins, joins_next}
use Rattle.registry_http.specs.Foundings.{range_data, vendor_data}

pub texts_plain : (texts : List (List ℕ)) → items_have_float (items_of (map string texts)) ≡ false
texts_plain [] = refl
texts_plain (text ∷ texts) = texts_plain texts

pub spans_plain : (spans : List Span) → items_have_float (items_of (map range_data spans)) ≡ false
spans_plain [] = refl
spans_plain (span ∷ spans) = spans_plain spans

pub vendors_plain : (vendors : List Vendor) → items_have_float (items_of (map vendor_data vendors)) ≡ false
vendors_plain [] = refl
vendors_plain (vendor ∷ vendors) = vendors_plain vendors

map_joins : {X : Type 0} (f : X → Data) → Joins (map f)
map_joins f = record { none = refl; more = λ x xs. refl }

pub mapped_next : {X : Type 0} (f : X → Data) (xs : List X) (i : ℕ) (x : X) (now next : List Value) (value : Value) → i < length xs → x ≡ get_or xs i x
    → map view now ≡ map f (take i xs) → next ≡ now ++ value ∷ [] → view value ≡ f x → map view next ≡ map f (take (i + 1) xs)
mapped_next f xs i x now next value within is so_far put of =
    ap (map view) put ∙ (map-append view now (value ∷ []) ∙ (ap (λ (l : List Data). l ++ view value ∷ []) so_far ∙ (ap (λ (d : Data). map f (take i xs) ++ d ∷ []) of ∙ sym (joins_next (map f) (map_joins f) xs i x within is))))
