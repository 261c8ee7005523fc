-- A number's entry after a grant, a return, an amended card and an import; an owned number has a card.
use Rattle.std.proofs.Common.{◌≡◌, ℕ, List, [], ◌∷◌, Option, Some, None, Bool, true, false, refl, ap, sym, ◌∙◌, inl, inr}
use Rattle.std.specs.Prelude.{nat_eq, unwrap_or, option_and_then, if◌then◌else◌, find, is_some, is_none}
use Rattle.std.specs.Option.{option_map, option_or}
use Rattle.std.specs.List.{list_any, filter_map, cons_option, AllByRecursion}
use Rattle.std.proofs.lemmas.Bool.{cases_eq, eq-eqb, ne_eqb, or_parts}
use Rattle.usbnum_core.specs.declared.number.Number.{Number}
use Rattle.registry_rules.specs.Number.{number, number_eq}
use Rattle.registry_rules.specs.History.{History, sooner, first_of, last_of}
use Rattle.registry_rules.specs.Query.{answer_if, item_of, receiver, card_given, card_asked, card_of_item, owner_of, card_of}
use Rattle.registry_rules.specs.Records.{entry_changed, with_held, with_card, after_all}
use Rattle.registry_rules.specs.Changes.{entry_granted, entry_imported, item_change}
use Rattle.registry_rules.specs.Import.{Standing}
use Rattle.registry_rules.specs.Run.{Legal}
use Rattle.registry_rules.specs.Verdict.{standing_at}
use Rattle.registry_rules.proofs.FollowLemmas.{Follows, legal_follows}
use Rattle.registry_rules.proofs.ImportLemmas.{IsFreshItem, AreApart, has_code, item_is}
use Rattle.registry_rules.proofs.CheckLemmas.{OwnerFits}
use Rattle.registry_rules.proofs.RunLemmas.{legal_before}
use Rattle.registry_rules.specs.declared.change.Change.TheVariants.{PutEntry}
use Rattle.registry_rules.specs.declared.deed.Deed.{Deed}
use Rattle.registry_rules.specs.declared.deed.Act.{Act}
use Rattle.registry_rules.specs.declared.deed.Act.TheVariants.{Granted, CardAmended, Imported, CardCorrected}
use Rattle.registry_rules.specs.declared.founding.Founding.{Founding}
use Rattle.registry_rules.specs.declared.item.Item.{Item}
use Rattle.registry_rules.specs.declared.record.Petition.{Petition}
use Rattle.registry_rules.specs.declared.record.Card.{Card}
use Rattle.registry_rules.specs.declared.record.Entry.{Entry}

-- an entry by its owner, its card and whether it is held
abbrev pub entry_by : Option (List ℕ) → Option Card → Option Bool → Option Entry
entry_by owner card held = option_and_then (λ org. option_map (λ card. record { org = org; held = unwrap_or held false; card = card }) card) owner

pub granted_entry : (b : Bool) (owner : Option (List ℕ)) (now : Bool) (card : Option Card) (held : Option Bool) (petition : Petition) → (b ≡ true → OwnerFits owner now petition.org) →
    (if b then Some (entry_granted petition) else entry_by owner card held)
    ≡ entry_by (sooner owner (answer_if b petition.org)) (option_or (answer_if b (card_asked petition)) card) (option_or (answer_if b true) held)
granted_entry false owner now card held petition h = refl
granted_entry true None now card held petition h = refl
granted_entry true (Some owner) now card held petition h =
    ap (λ org. Some (record { org = org; held = true; card = card_asked petition })) (sym (h refl).0)

-- a return leaves the owner and the card
pub returned_entry : (b : Bool) (owner : Option (List ℕ)) (card : Option Card) (held : Option Bool) →
    (if b then option_map (with_held false) (entry_by owner card held) else entry_by owner card held) ≡ entry_by owner card (option_or (answer_if b false) held)
returned_entry false owner card held = refl
returned_entry true None card held = refl
returned_entry true (Some org) None held = refl
returned_entry true (Some org) (Some card) held = refl

-- An owned number has a card.

-- if there is an owner, there is a card
abbrev pub IsCarded : Option (List ℕ) → Option Card → Type 0
IsCarded None card = Unit {0}
IsCarded (Some owner) None = ⊥
IsCarded (Some owner) (Some card) = Unit {0}

carded_grant : (b : Bool) (owner : Option (List ℕ)) (card : Option Card) (org : List ℕ) (new : Card) → IsCarded owner card → IsCarded (sooner owner (answer_if b org)) (option_or (answer_if b new) card)
carded_grant false owner card org new was = was
carded_grant true None card org new was = tt
carded_grant true (Some owner) card org new was = tt

carded_amendment : (b : Bool) (owner : Option (List ℕ)) (card : Option Card) (new : Card) → IsCarded owner card → IsCarded owner (option_or (answer_if b new) card)
carded_amendment false owner card new was = was
carded_amendment true None card new was = tt
carded_amendment true (Some owner) card new was = tt

carded_title : (owner : Option (List ℕ)) (org : List ℕ) (title : Option (List ℕ)) (card : Option Card) → is_some title ≡ true →
    IsCarded (Some (unwrap_or owner org)) (option_or (option_map (λ title. record { title = title; terms = None }) title) card)
carded_title owner org None card e = absurd cc
carded_title owner org (Some title) card e = tt

none_is : {A : Type 0} (o : Option A) → is_none o ≡ false → is_some o ≡ true
none_is None e = absurd cc
none_is (Some x) e = refl

carded_import : (n : Number) (vid : ℕ) (org : List ℕ) (standing : ℕ → Standing) (fresh : List Item) (found : Option Item) (owner : Option (List ℕ)) (card : Option Card) →
    AllByRecursion (IsFreshItem standing) fresh → item_of vid fresh n ≡ found → IsCarded owner card →
    IsCarded (sooner owner (option_map (λ (item : Item). org) found)) (option_or (option_and_then card_of_item found) card)
carded_import n vid org standing fresh None owner card each e was = was
carded_import n vid org standing fresh (Some item) owner card each e was =
    let is = item_is (IsFreshItem standing) vid fresh n item each e in
    carded_title owner org item.title card (none_is item.title is.2.titled)

carded_by : (h : History) (caller : List ℕ) (act : Act) (n : Number) (owner : Option (List ℕ)) (card : Option Card) → Follows h caller act → IsCarded owner card →
    IsCarded (sooner owner (receiver n act)) (option_or (card_given n act) card)
carded_by h caller (Granted id petition name) n owner card follows was = carded_grant (number_eq n name.number) owner card petition.org (card_asked petition) was
carded_by h caller (CardAmended name new) n owner card follows was = carded_amendment (number_eq n name.number) owner card new was
carded_by h caller (Imported vid org fresh tally) n owner card follows was = carded_import n vid org (standing_at h vid) fresh (item_of vid fresh n) owner card follows.each refl was
carded_by h caller (CardCorrected name new) n owner card follows was = carded_amendment (number_eq n name.number) owner card new was
carded_by h caller _ n owner card follows was = was

carded_deeds : (founding : Founding) (deeds : List Deed) (n : Number) → Legal (record { founding = founding; deeds = deeds }) →
    IsCarded (first_of (λ deed. receiver n deed.act) deeds) (last_of (λ deed. card_given n deed.act) deeds)
carded_deeds founding [] n legal = tt
carded_deeds founding (deed ∷ earlier) n legal =
    carded_by (record { founding = founding; deeds = earlier }) deed.caller deed.act n (first_of (λ d. receiver n d.act) earlier) (last_of (λ d. card_given n d.act) earlier)
    (legal_follows founding deed earlier legal) (carded_deeds founding earlier n (legal_before founding deed earlier legal))

-- in a legal history an owned number has a card
pub carded : (h : History) (n : Number) → Legal h → IsCarded (owner_of h n) (card_of h n)
carded h n legal = carded_deeds h.founding h.deeds n legal

pub amended_entry : (b : Bool) (owner : Option (List ℕ)) (card : Option Card) (held : Option Bool) (new : Card) → IsCarded owner card →
    (if b then option_map (with_card new) (entry_by owner card held) else entry_by owner card held) ≡ entry_by owner (option_or (answer_if b new) card) held
amended_entry false owner card held new has = refl
amended_entry true None card held new has = refl
amended_entry true (Some org) None held new has = absurd has
amended_entry true (Some org) (Some card) held new has = refl

-- The items of an import.

-- the entry after an item that has the number, if there is one
abbrev pub put_item : List ℕ → Option Entry → Option Item → Option Entry
put_item org old None = old
put_item org old (Some item) = option_or (option_map (entry_imported org) item.title) old

titled : (title : Option (List ℕ)) → is_none title ≡ false → (text : List ℕ) × (title ≡ Some text)
titled None e = absurd cc
titled (Some text) e = (text, refl)

none_has : {A : Type 0} (test : A → Bool) (items : List A) → list_any test items ≡ false → find test items ≡ None
none_has test [] e = refl
none_has test (item ∷ items) e = let both = or_parts (test item) (list_any test items) e in rw both.0 (none_has test items both.1)

either : {A : Type 0} (b : Bool) (x : A) → (if b then x else x) ≡ x
either true x = refl
either false x = refl

-- the change that a fresh item makes
item_is_put : (vid : ℕ) (org : List ℕ) (item : Item) (text : List ℕ) (code : Bool) → code ≡ false → item.title ≡ Some text →
    (if code then None else option_map (λ title. PutEntry (number vid item.code) (entry_imported org title)) item.title) ≡ Some (PutEntry (number vid item.code) (entry_imported org text))
item_is_put vid org item text true e t = absurd cc
item_is_put vid org item text false e t = ap (option_map (λ title. PutEntry (number vid item.code) (entry_imported org title))) t

pub items_entry : (standing : ℕ → Standing) (vid : ℕ) (org : List ℕ) (items : List Item) (n : Number) (old : Option Entry) → AllByRecursion (IsFreshItem standing) items → AreApart items →
    after_all (entry_changed n) (filter_map (item_change vid org) items) old ≡ put_item org old (item_of vid items n)
items_entry standing vid org [] n old each apart = ap (put_item org old) (sym (either (nat_eq vid n.vid) None))
items_entry standing vid org (item ∷ items) n old each apart =
    let text = titled item.title each.0.titled in
    let entry = entry_imported org text.0 in
    ap (λ change. after_all (entry_changed n) (cons_option change (filter_map (item_change vid org) items)) old) (item_is_put vid org item text.0 (nat_eq item.code 0) each.0.code text.1)
    ∙ items_entry standing vid org items n (if number_eq n (number vid item.code) then Some entry else old) each.1 apart.1
    ∙ next entry (ap (option_map (entry_imported org)) text.1)
  where
    next : (entry : Entry) → option_map (entry_imported org) item.title ≡ Some entry →
        put_item org (if number_eq n (number vid item.code) then Some entry else old) (item_of vid items n) ≡ put_item org old (item_of vid (item ∷ items) n)
    next entry is = elim (cases_eq vid n.vid) [
      | inr other ↦ rw (ne_eqb vid n.vid other, ne_eqb n.vid vid (λ same. other (sym same))) refl
      | inl same ↦ elim (cases_eq item.code n.pid) [
        | inl here ↦
            let none : find (λ (other : Item). nat_eq other.code n.pid) items ≡ None =
            none_has (λ (other : Item). nat_eq other.code n.pid) items (ap (has_code items) (sym here) ∙ apart.0) in
            rw (eq-eqb vid n.vid same, eq-eqb n.vid vid (sym same), eq-eqb item.code n.pid here, eq-eqb n.pid item.code (sym here), none, is) refl
        | inr away ↦ rw (eq-eqb vid n.vid same, eq-eqb n.vid vid (sym same), ne_eqb item.code n.pid away, ne_eqb n.pid item.code (λ e. away (sym e))) refl
      ]
    ]

pub unowned_is : (owner : Option (List ℕ)) → is_some owner ≡ false → owner ≡ None
unowned_is None e = refl
unowned_is (Some org) e = absurd cc

pub imported_entry : (org : List ℕ) (owner : Option (List ℕ)) (card : Option Card) (held : Option Bool) (found : Option Item) →
    ((item : Item) → found ≡ Some item → (owner ≡ None) × (is_none item.title ≡ false)) →
    put_item org (entry_by owner card held) found
    ≡ entry_by (sooner owner (option_map (λ (item : Item). org) found)) (option_or (option_and_then card_of_item found) card) (option_or (option_map (λ (item : Item). true) found) held)
imported_entry org owner card held None fits = refl
imported_entry org owner card held (Some item) fits =
    let can = fits item refl in
    let text = titled item.title can.1 in
    rw (can.0, text.1) refl
