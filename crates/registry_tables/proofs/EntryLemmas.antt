-- What is found after an entry is changed in place.
use Rattle.std.proofs.Common.{◌≡◌, Bool, true, false, cond, if◌then◌else◌, ◌&&◌, List, [], ◌∷◌, find, Option, Some, None, refl, ap, ap₂, ◌∙◌}
use Rattle.std.specs.List.{AllByRecursion}
use Rattle.std.specs.Option.{option_map}
use Rattle.sqlite_keyed.specs.Lists.{update_where}
use Rattle.usbnum_core.specs.declared.number.Number.{Number}
use Rattle.registry_rules.specs.Number.{number_eq}
use Rattle.registry_rules.specs.declared.record.Entry.{Entry}
use Rattle.registry_rows.specs.Rows.{is_of}
use Rattle.registry_rows.proofs.KeyLemmas.{turned}
use Rattle.registry_tables.specs.Rows.{NoTwo}

-- if the change keeps the test, the test finds the changed value
found_changed : {X : Type 0} (test p : X → Bool) (f : X → X) → ((x : X) → test (f x) ≡ test x) → (xs : List X) → find test (update_where p f xs) ≡ option_map (λ x. cond (p x) (f x) x) (find test xs)
found_changed test p f keeps [] = refl
found_changed {X} test p f keeps (x ∷ xs) = go (p x) refl (test x) refl (found_changed test p f keeps xs)
  where
    go : (b : Bool) → p x ≡ b → (c : Bool) → test x ≡ c → find test (update_where p f xs) ≡ option_map (λ y. cond (p y) (f y) y) (find test xs)
        → cond (test (cond b (f x) x)) (Some (cond b (f x) x)) (find test (update_where p f xs)) ≡ option_map (λ y. cond (p y) (f y) y) (cond c (Some x) (find test xs))
    go true is true there more = rw (keeps x, there, is) refl
    go true is false there more = rw (keeps x, there) more
    go false is true there more = rw (there, is) refl
    go false is false there more = rw there more

module _ (g : Entry → Entry) (number : Number) where
  told : (n : Number) (b : Bool) (old : Option Entry) → number_eq n number ≡ b
      → (let here : Entry → Number × Entry = λ e. (n, e) in option_map (λ (e : Number × Entry). cond (is_of number e) (e.0, g e.1) e) (option_map here old) ≡ option_map here (cond b (option_map g old) old))
  told n true None is = refl
  told n false None is = refl
  told n true (Some e) is = let same : number_eq number n ≡ true = ap₂ ◌&&◌ (turned number.vid n.vid) (turned number.pid n.pid) ∙ is in rw same refl
  told n false (Some e) is = let same : number_eq number n ≡ false = ap₂ ◌&&◌ (turned number.vid n.vid) (turned number.pid n.pid) ∙ is in rw same refl

  pub entry_set : (entries : List (Number × Entry)) (n : Number) (old : Option Entry) → find (is_of n) entries ≡ option_map (λ e. (n, e)) old
      → find (is_of n) (update_where (is_of number) (λ e. (e.0, g e.1)) entries) ≡ option_map (λ e. (n, e)) (if number_eq n number then option_map g old else old)
  entry_set entries n old was =
      found_changed (is_of n) (is_of number) (λ e. (e.0, g e.1)) (λ e. refl) entries
      ∙ ap (option_map (λ (e : Number × Entry). cond (is_of number e) (e.0, g e.1) e)) was ∙ told n (number_eq n number) old refl

  key_kept : (e : Number × Entry) → (cond (is_of number e) (e.0, g e.1) e).0 ≡ e.0
  key_kept e = let new : Number × Entry = (e.0, g e.1) in elim (is_of number e) as (λ b. (cond b new e).0 ≡ e.0) [ true ↦ refl | false ↦ refl ]

  pub entries_once : (entries : List (Number × Entry)) → NoTwo (λ a b. is_of b.0 a) entries → NoTwo (λ a b. is_of b.0 a) (update_where (is_of number) (λ e. (e.0, g e.1)) entries)
  entries_once [] once = tt
  entries_once (e ∷ entries) once = (apart entries once.0, entries_once entries once.1)
    where
      apart : (others : List (Number × Entry)) → AllByRecursion (λ o. is_of o.0 e ≡ false) others
          → AllByRecursion (λ o. is_of o.0 (cond (is_of number e) (e.0, g e.1) e) ≡ false) (update_where (is_of number) (λ e. (e.0, g e.1)) others)
      apart [] all = tt
      apart (o ∷ others) all = (ap₂ number_eq (key_kept o) (key_kept e) ∙ all.0, apart others all.1)
