-- The fresh items of an import: for each code the first item, if it is good.
use Rattle.std.proofs.Common.{◌≡◌, ℕ, false, List, [], ◌∷◌, ◌++◌, Option, Some, find, nat_eq, refl, ap, ◌∙◌, inl, inr}
use Rattle.std.specs.Prelude.{◌&&◌, is_some}
use Rattle.std.proofs.lemmas.Bool.{cases_Bool, eqb-true}
use Rattle.std.proofs.lemmas.List.Folds.{list_any-append}
use Rattle.registry_rules.specs.Import.{Standing, is_doubled, class_of, classes_from, fresh_of}
use Rattle.registry_rules.specs.declared.item.Item.{Item}
use Rattle.registry_rules.specs.declared.item.ItemClass.{ItemClass}
use Rattle.registry_rules.specs.declared.item.ItemClass.TheVariants.{Zero, Untitled, Doubled, Reserved, Owned, Fresh}
use Rattle.registry_rules.proofs.ImportLemmas.{IsFreshItem}

-- the first item with the code
abbrev pub coded : ℕ → List Item → Option Item
coded code items = find (λ item. nat_eq item.code code) items

-- an item with another code is skipped, whatever its class
passed : (class : ItemClass) (classes : List ItemClass) (item : Item) (items : List Item) (code : ℕ) → nat_eq item.code code ≡ false →
    coded code (fresh_of (class ∷ classes) (item ∷ items)) ≡ coded code (fresh_of classes items)
passed Fresh classes item items code other = rw other refl
passed Owned classes item items code other = refl
passed Reserved classes item items code other = refl
passed Doubled classes item items code other = refl
passed Untitled classes item items code other = refl
passed Zero classes item items code other = refl

class_fresh : (standing : ℕ → Standing) (before : List Item) (item : Item) → IsFreshItem standing item → is_doubled before item.code ≡ false → class_of (standing item.code) before item ≡ Fresh
class_fresh standing before item is once = rw (is.code, is.titled, once, is.unreserved, is.unowned) refl

still_once : (before : List Item) (item : Item) (code : ℕ) → is_doubled before code ≡ false → nat_eq item.code code ≡ false → is_doubled (before ++ item ∷ []) code ≡ false
still_once before item code once other = list_any-append (λ (x : Item). nat_eq x.code code && is_some x.title) before (item ∷ []) ∙ rw (once, other) refl

-- the first item with a code is fresh, if it is good and no earlier item has that code
pub fresh_coded : (standing : ℕ → Standing) (before items : List Item) (code : ℕ) → is_doubled before code ≡ false →
    ((item : Item) → coded code items ≡ Some item → IsFreshItem standing item) → coded code (fresh_of (classes_from standing before items) items) ≡ coded code items
fresh_coded standing before [] code once good = refl
fresh_coded standing before (item ∷ items) code once good = elim (cases_Bool (nat_eq item.code code)) [
  | inl e ↦
      let same : item.code ≡ code = eqb-true item.code code e in
      let fresh : class_of (standing item.code) before item ≡ Fresh = class_fresh standing before item (good item (rw e refl)) (ap (is_doubled before) same ∙ once) in
      ap (λ (class : ItemClass). coded code (fresh_of (class ∷ classes_from standing (before ++ item ∷ []) items) (item ∷ items))) fresh ∙ rw e refl
  | inr e ↦
      passed (class_of (standing item.code) before item) (classes_from standing (before ++ item ∷ []) items) item items code e
      ∙ fresh_coded standing (before ++ item ∷ []) items code (still_once before item code once e) (λ other is. good other (rw e is))
      ∙ rw e refl
]
