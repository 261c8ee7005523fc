-- From the entries of a range to the owners of its numbers.
use Rattle.std.proofs.Common.{◌≡◌, ℕ, Bool, true, false, cond, ◌&&◌, nat_eq, nat_le, List, [], ◌∷◌, map, filter, find, slice_get, Option, Some, None, option_and_then, refl, sym, ap, subst, ◌∙◌, eq-eqb}
use Rattle.std.specs.Option.{option_map}
use Rattle.std.proofs.lemmas.Bool.{and_from}
use Rattle.sqlite_keyed.specs.Lists.{sort_by}
use Rattle.sqlite_keyed.proofs.ListLemmas.{filter-filter, slice_get-filter, ascending-filter}
use Rattle.usbnum_core.specs.declared.number.Number.{Number}
use Rattle.registry_rules.specs.Number.{number_eq}
use Rattle.registry_rules.specs.FactsOf.{holding_of}
use Rattle.registry_rules.specs.History.{History}
use Rattle.registry_rules.specs.Query.{owner_of, is_held, card_of}
use Rattle.registry_rules.specs.Records.{entry_of}
use Rattle.registry_rules.specs.Run.{Legal}
use Rattle.registry_rules.specs.declared.concern.VendorSpan.{VendorSpan}
use Rattle.registry_rules.specs.declared.record.Card.{Card}
use Rattle.registry_rules.specs.declared.record.Entry.{Entry}
use Rattle.registry_rules.specs.declared.record.Holding.{Holding}
use Rattle.registry_rules.proofs.EntryLemmas.{carded}
use Rattle.registry_rows.specs.Rows.{is_of, is_between, by_number}
use Rattle.registry_tables.specs.Finds.{holding_at, AreHoldings}
use Rattle.registry_tables.specs.Rows.{AreEntries}
use Rattle.registry_tables.proofs.ListLemmas.{one_number}
use Rattle.registry_tables.proofs.SortLemmas.{find_sorted}
use Rattle.registry_tables.proofs.ViewLemmas.{same_number}

-- ---- lookups in a list

pub find_among : {X : Type 0} (p q : X → Bool) → ((x : X) → p x ≡ true → q x ≡ true) → (xs : List X) → find p (filter q xs) ≡ find p xs
find_among p q within xs = sym (slice_get-filter p (filter q xs)) ∙ ap (λ l. slice_get l 0) (filter-filter p q within xs) ∙ slice_get-filter p xs

found_each : {A B : Type 0} (b : Bool) (f : A → B) (x : A) (o : Option A) → cond b (Some (f x)) (option_map f o) ≡ option_map f (cond b (Some x) o)
found_each true f x o = refl
found_each false f x o = refl

pub find_each : {A B : Type 0} (p : B → Bool) (f : A → B) (xs : List A) → find p (map f xs) ≡ option_map f (find (λ x. p (f x)) xs)
find_each p f [] = refl
find_each p f (x ∷ xs) = ap (λ o. cond (p (f x)) (Some (f x)) o) (find_each p f xs) ∙ found_each (p (f x)) f x (find (λ y. p (f y)) xs)

-- ---- an entry names the owner of its number

owned : (n : Number) (owner : Option (List ℕ)) (card : Option Card) (held : Bool) → ((org : List ℕ) → owner ≡ Some org → card ≡ None → ⊥)
    → option_map holding_at (option_map (λ entry. (n, entry)) (option_and_then (λ org. option_map (λ card. record { org = org; held = held; card = card }) card) owner))
    ≡ option_map (λ owner. record { number = n; org = owner; held = held }) owner
owned n None card held has = refl
owned n (Some org) None held has = absurd (has org refl refl)
owned n (Some org) (Some card) held has = refl

holding_is : (h : History) → Legal h → (n : Number) → option_map holding_at (option_map (λ entry. (n, entry)) (entry_of h n)) ≡ holding_of h n
holding_is h legal n = owned n (owner_of h n) (card_of h n) (is_held h n) (λ org owner none. rw (owner, none) at (carded h n legal))

pub holdings_are : (h : History) → Legal h → (entries : List (Number × Entry)) → AreEntries h entries → (range : VendorSpan)
    → AreHoldings range h (map holding_at (sort_by by_number (filter (is_between range.vid range.span.first range.span.last) entries)))
holdings_are h legal entries are range n within =
    let there = is_between range.vid range.span.first range.span.last in
    let at = is_of n in
    let inside : (e : Number × Entry) → at e ≡ true → there e ≡ true = λ e is.
    subst (λ (m : Number). (nat_eq m.vid range.vid && (nat_le range.span.first m.pid && nat_le m.pid range.span.last)) ≡ true) (same_number n e.0 is) (and_from _ _ (rw within.0 (eq_self n.vid)) within.1) in
    find_each (λ (holding : Holding). number_eq n holding.number) holding_at _
    ∙ ap (option_map holding_at) (find_sorted by_number at (λ a b. is_of b.0 a) (one_number n) (filter there entries) (ascending-filter _ there entries are.once) ∙ find_among at there inside entries ∙ are.each n)
    ∙ holding_is h legal n
  where
    eq_self : (a : ℕ) → nat_eq a a ≡ true
    eq_self a = eq-eqb a a refl
