-- The states of a number in a legal history: owned, held and reserved.
use Rattle.std.proofs.Common.{◌≡◌, ℕ, List, [], ◌∷◌, Option, Some, None, Bool, true, false, refl, ap, sym, ◌∙◌, subst, inl, inr, ⊎_elim, ◌⊎◌}
use Rattle.std.specs.Prelude.{nat_eq, is_some, is_none, unwrap_or, ◌&&◌, ◌||◌}
use Rattle.std.specs.Option.{option_map, option_or}
use Rattle.std.specs.List.{AllByRecursion, Contains}
use Rattle.std.proofs.lemmas.Bool.{and_parts, eqb-true, cases_Bool, or_from}
use Rattle.std.proofs.lemmas.List.Elements.{All-from_recursion, All-contains}
use Rattle.usbnum_core.specs.declared.number.Number.{Number}
use Rattle.usbnum_core.specs.Spans.{span_has}
use Rattle.registry_rules.specs.Number.{number, number_eq}
use Rattle.registry_rules.specs.History.{History, first_of, last_of, sooner}
use Rattle.registry_rules.specs.Query.{answer_if, item_of, receiver, holds, reserves, owner_of, is_held, is_fixed, is_reserved}
use Rattle.registry_rules.specs.Run.{Legal}
use Rattle.registry_rules.specs.Verdict.{standing_at}
use Rattle.registry_rules.proofs.RunLemmas.{legal_before}
use Rattle.registry_rules.proofs.CheckLemmas.{OwnerFits}
use Rattle.registry_rules.proofs.ImportLemmas.{IsFreshItem, item_is}
use Rattle.registry_rules.proofs.FollowLemmas.{Follows, legal_follows}
use Rattle.registry_rules.specs.declared.deed.Deed.{Deed}
use Rattle.registry_rules.specs.declared.deed.Act.{Act}
use Rattle.registry_rules.specs.declared.deed.Act.TheVariants.{Granted, Returned, Reserved, Released, Imported, Revoked}
use Rattle.registry_rules.specs.declared.founding.Founding.{Founding}
use Rattle.registry_rules.specs.declared.item.Item.{Item}

-- The tests.

-- two numbers that pass the test are equal
pub same_number : (a b : Number) → number_eq a b ≡ true → a ≡ b
same_number a b e =
    let both = and_parts (nat_eq a.vid b.vid) (nat_eq a.pid b.pid) e in
    ap (λ vid. number vid a.pid) (eqb-true a.vid b.vid both.0) ∙ ap (number b.vid) (eqb-true a.pid b.pid both.1)

given_is : {A : Type 0} (b : Bool) (x y : A) → answer_if b x ≡ Some y → (b ≡ true) × (x ≡ y)
given_is true x y e = (refl, cc)
given_is false x y e = absurd cc

given_none : {A : Type 0} (b : Bool) (x : A) → answer_if b x ≡ None → b ≡ false
given_none true x e = absurd cc
given_none false x e = refl

some_not : {A : Type 0} (found : Option A) → is_some found ≡ false → found ≡ None
some_not None e = refl
some_not (Some x) e = absurd cc

-- A number has one organisation for good.

-- the number has no owner, or this one
abbrev Allows : Option (List ℕ) → List ℕ → Type 0
Allows None org = Unit {0}
Allows (Some owner) org = owner ≡ org

allows_fitting : (owner : Option (List ℕ)) (held : Bool) (org : List ℕ) → OwnerFits owner held org → Allows owner org
allows_fitting None held org fits = tt
allows_fitting (Some owner) held org fits = fits.0

allows_none : (owner : Option (List ℕ)) (org : List ℕ) → owner ≡ None → Allows owner org
allows_none None org e = tt
allows_none (Some owner) org e = absurd cc

item_found : (found : Option Item) (org to : List ℕ) → option_map (λ item. org) found ≡ Some to → (item : Item) × (found ≡ Some item)
item_found None org to e = absurd cc
item_found (Some item) org to e = (item, refl)

-- a fresh item's number has no owner, and is not reserved
fresh_number : (h : History) (vid : ℕ) (fresh : List Item) (n : Number) (item : Item) → AllByRecursion (IsFreshItem (standing_at h vid)) fresh → item_of vid fresh n ≡ Some item →
    (owner_of h n ≡ None) × (is_reserved h n ≡ false)
fresh_number h vid fresh n item each e =
    let is = item_is (IsFreshItem (standing_at h vid)) vid fresh n item each e in
    let same : number vid item.code ≡ n = ap (λ v. number v item.code) is.0 ∙ ap (number n.vid) is.1 in (
      some_not (owner_of h n) (subst (λ (m : Number). is_some (owner_of h m) ≡ false) same is.2.unowned),
      subst (λ (m : Number). is_reserved h m ≡ false) same is.2.unreserved,
    )

-- an accepted act gives a number to its owner, if it has one
receiver_allowed : (h : History) (caller : List ℕ) (act : Act) (n : Number) (org : List ℕ) → Follows h caller act → receiver n act ≡ Some org → Allows (owner_of h n) org
receiver_allowed h caller (Granted id petition name) n org can e =
    let is = given_is (number_eq n name.number) petition.org org e in
    let same : n ≡ name.number = same_number n name.number is.0 in
    subst (λ (o : List ℕ). Allows (owner_of h n) o) is.1
    (subst (λ (m : Number). Allows (owner_of h m) petition.org) (sym same)
    (allows_fitting (owner_of h name.number) (is_held h name.number) petition.org can.fits.owner))
receiver_allowed h caller (Imported vid to fresh tally) n org can e =
    let found = item_found (item_of vid fresh n) to org e in
    allows_none (owner_of h n) org (fresh_number h vid fresh n found.0 can.each found.1).0
receiver_allowed h caller _ n org can e = absurd cc

owner_now : (owner found : Option (List ℕ)) (org : List ℕ) → Allows owner org → found ≡ Some org → sooner owner found ≡ Some org
owner_now None None org fits e = e
owner_now None (Some x) org fits e = e
owner_now (Some owner) None org fits e = absurd cc
owner_now (Some owner) (Some x) org fits e = ap Some fits

owner_still : (owner found : Option (List ℕ)) (org : List ℕ) → owner ≡ Some org → sooner owner found ≡ Some org
owner_still owner None org e = e
owner_still owner (Some x) org e = rw e refl

weaker : {A : Type 0} (P Q : A → Type 0) → ((x : A) → P x → Q x) → (xs : List A) → AllByRecursion P xs → AllByRecursion Q xs
weaker P Q f [] each = tt
weaker P Q f (x ∷ xs) each = (f x each.0, weaker P Q f xs each.1)

abbrev Names : Number → List Deed → Deed → Type 0
Names n deeds deed = (org : List ℕ) → receiver n deed.act ≡ Some org → first_of (λ deed. receiver n deed.act) deeds ≡ Some org

each_names : (founding : Founding) (n : Number) (deeds : List Deed) → Legal (record { founding = founding; deeds = deeds }) → AllByRecursion (Names n deeds) deeds
each_names founding n [] legal = tt
each_names founding n (deed ∷ earlier) legal =
    let h : History = record { founding = founding; deeds = earlier } in (
      (λ org e. owner_now (owner_of h n) (receiver n deed.act) org (receiver_allowed h deed.caller deed.act n org (legal_follows founding deed earlier legal) e) e),
      weaker (Names n earlier) (Names n (deed ∷ earlier)) (λ other named org e. owner_still (owner_of h n) (receiver n deed.act) org (named org e)) earlier
          (each_names founding n earlier (legal_before founding deed earlier legal)),
    )

-- an organisation to which a deed of a legal history gives a number owns it
pub one_organisation : (h : History) → Legal h → (n : Number) (deed : Deed) (org : List ℕ) → Contains h.deeds deed → receiver n deed.act ≡ Some org → owner_of h n ≡ Some org
one_organisation h legal n deed org among e =
    All-contains (Names n h.deeds) h.deeds deed (All-from_recursion (Names n h.deeds) h.deeds (each_names h.founding n h.deeds legal)) among org e

-- An unowned number is not held.

unmapped : {A B : Type 0} (f : A → B) (found : Option A) → option_map f found ≡ None → found ≡ None
unmapped f None e = refl
unmapped f (Some x) e = absurd cc

neither : (owner found : Option (List ℕ)) → sooner owner found ≡ None → (owner ≡ None) × (found ≡ None)
neither owner None e = (e, refl)
neither owner (Some x) e = absurd cc

-- whether the number is held, by the next deed and the deeds so far
abbrev held_by : Option Bool → Option Bool → Bool
held_by next so_far = unwrap_or (option_or next so_far) false

unheld_before : (next so_far : Option Bool) → next ≡ None → unwrap_or so_far false ≡ false → held_by next so_far ≡ false
unheld_before next so_far none e = rw none e

unheld_if : (b : Bool) (so_far : Option Bool) → unwrap_or so_far false ≡ false → held_by (answer_if b false) so_far ≡ false
unheld_if true so_far e = refl
unheld_if false so_far e = e

unheld_now : (n : Number) (act : Act) (so_far : Option Bool) → receiver n act ≡ None → unwrap_or so_far false ≡ false → held_by (holds n act) so_far ≡ false
unheld_now n (Granted id petition name) so_far r e =
    unheld_before (answer_if (number_eq n name.number) true) so_far
    (ap (λ b. answer_if b true) (given_none (number_eq n name.number) petition.org r)) e
unheld_now n (Imported vid to fresh tally) so_far r e =
    unheld_before (option_map (λ item. true) (item_of vid fresh n)) so_far (ap (option_map (λ item. true)) (unmapped (λ item. to) (item_of vid fresh n) r)) e
unheld_now n (Returned name) so_far r e = unheld_if (number_eq n name.number) so_far e
unheld_now n (Revoked name) so_far r e = unheld_if (number_eq n name.number) so_far e
unheld_now n _ so_far r e = e

unheld_in : (n : Number) (deeds : List Deed) → first_of (λ deed. receiver n deed.act) deeds ≡ None → unwrap_or (last_of (λ deed. holds n deed.act) deeds) false ≡ false
unheld_in n [] e = refl
unheld_in n (deed ∷ earlier) e =
    let both = neither (first_of (λ deed. receiver n deed.act) earlier) (receiver n deed.act) e in
    unheld_now n deed.act (last_of (λ deed. holds n deed.act) earlier) both.1 (unheld_in n earlier both.0)

pub unheld : (h : History) (n : Number) → owner_of h n ≡ None → is_held h n ≡ false
unheld h n e = unheld_in n h.deeds e

-- An owned number is not reserved.

-- the number has no owner, or is not reserved
abbrev pub OwnedOrReserved : Option (List ℕ) → Bool → Type 0
OwnedOrReserved owner reserved = (owner ≡ None) ⊎ (reserved ≡ false)

-- whether the number is reserved, by whether it is fixed, the next deed and the deeds so far
abbrev reserved_by : Bool → Option Bool → Option Bool → Bool
reserved_by fixed next so_far = fixed || unwrap_or (option_or next so_far) false

-- a number that an accepted act gives was not reserved
unreserved_receiver : (h : History) (caller : List ℕ) (act : Act) (n : Number) (org : List ℕ) → Follows h caller act → receiver n act ≡ Some org → is_reserved h n ≡ false
unreserved_receiver h caller (Granted id petition name) n org can e =
    let is = given_is (number_eq n name.number) petition.org org e in
    subst (λ (m : Number). is_reserved h m ≡ false) (sym (same_number n name.number is.0)) can.fits.unreserved
unreserved_receiver h caller (Imported vid to fresh tally) n org can e =
    let found = item_found (item_of vid fresh n) to org e in
    (fresh_number h vid fresh n found.0 can.each found.1).1
unreserved_receiver h caller _ n org can e = absurd cc

given_apart : (owner found : Option (List ℕ)) (reserved : Bool) → OwnedOrReserved owner reserved → ((org : List ℕ) → found ≡ Some org → reserved ≡ false) → OwnedOrReserved (sooner owner found) reserved
given_apart owner None reserved apart new = apart
given_apart owner (Some org) reserved apart new = inr (new org refl)

span_cases : (vid : ℕ) (n : Number) (has : Bool) (P : Bool → Type 0) → ((vid ≡ n.vid) → has ≡ true → P true) → P false → P (nat_eq vid n.vid && has)
span_cases vid n has P within outside = ⊎_elim
    (λ (z : (nat_eq vid n.vid && has) ≡ true).
    let both = and_parts (nat_eq vid n.vid) has z in subst P (sym z) (within (eqb-true vid n.vid both.0) both.1))
    (λ (z : (nat_eq vid n.vid && has) ≡ false). subst P (sym z) outside)
    (cases_Bool (nat_eq vid n.vid && has))

apart_now : (h : History) (caller : List ℕ) (act : Act) (n : Number) → Follows h caller act → OwnedOrReserved (owner_of h n) (is_reserved h n) →
    OwnedOrReserved (sooner (owner_of h n) (receiver n act)) (reserved_by (is_fixed h n) (reserves n act) (last_of (λ deed. reserves n deed.act) h.deeds))
apart_now h caller (Reserved name) n can apart =
    span_cases name.vid n (span_has name.span n.pid) (λ b. OwnedOrReserved (owner_of h n) (reserved_by (is_fixed h n) (answer_if b true) (last_of (λ deed. reserves n deed.act) h.deeds)))
    (λ same has. inl (some_not (owner_of h n) (subst (λ v. is_some (owner_of h (number v n.pid)) ≡ false) same (can.unowned n.pid has))))
    apart
apart_now h caller (Released name) n can apart =
    span_cases name.vid n (span_has name.span n.pid) (λ b. OwnedOrReserved (owner_of h n) (reserved_by (is_fixed h n) (answer_if b false) (last_of (λ deed. reserves n deed.act) h.deeds)))
    (λ same has. inr (or_from (is_fixed h n) false (subst (λ v. is_fixed h (number v n.pid) ≡ false) same (can.unfixed n.pid has)) refl))
    apart
apart_now h caller act n can apart = given_apart (owner_of h n) (receiver n act) (is_reserved h n) apart (λ org e. unreserved_receiver h caller act n org can e)

apart_in : (founding : Founding) (n : Number) (deeds : List Deed) → Legal (record { founding = founding; deeds = deeds }) →
    OwnedOrReserved (owner_of (record { founding = founding; deeds = deeds }) n) (is_reserved (record { founding = founding; deeds = deeds }) n)
apart_in founding n [] legal = inl refl
apart_in founding n (deed ∷ earlier) legal =
    apart_now (record { founding = founding; deeds = earlier }) deed.caller deed.act n (legal_follows founding deed earlier legal)
    (apart_in founding n earlier (legal_before founding deed earlier legal))

-- in a legal history no number is both owned and reserved
pub owned_or_reserved : (h : History) → Legal h → (n : Number) → OwnedOrReserved (owner_of h n) (is_reserved h n)
owned_or_reserved h legal n = apart_in h.founding n h.deeds legal

not_both : (owner : Option (List ℕ)) (reserved : Bool) → OwnedOrReserved owner reserved → (is_some owner && reserved) ≡ false
not_both None reserved apart = refl
not_both (Some org) reserved apart = ⊎_elim (λ (z : Some org ≡ None). absurd cc) (λ (z : reserved ≡ false). z) apart

not_held : (owner : Option (List ℕ)) (held : Bool) → (owner ≡ None → held ≡ false) → (held && is_none owner) ≡ false
not_held None held unheld = rw (unheld refl) refl
not_held (Some org) true unheld = refl
not_held (Some org) false unheld = refl

pub owned_and_reserved : (h : History) (n : Number) → Legal h →
    ((is_some (owner_of h n) && is_reserved h n) ≡ false) × ((is_held h n && is_none (owner_of h n)) ≡ false)
owned_and_reserved h n legal =
    (not_both (owner_of h n) (is_reserved h n) (owned_or_reserved h legal n), not_held (owner_of h n) (is_held h n) (unheld h n))
