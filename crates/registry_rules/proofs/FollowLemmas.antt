-- The conditions that an accepted act meets in the history before it.
use Rattle.std.proofs.Common.{◌≡◌, ℕ, ◌+◌, List, [], ◌∷◌, Option, Some, None, Ok, true, false, length, refl, ap, sym, ◌∙◌, subst}
use Rattle.std.specs.Prelude.{nat_lt, is_some, option_and_then}
use Rattle.std.specs.Option.{option_map}
use Rattle.std.specs.List.{AllByRecursion}
use Rattle.usbnum_core.specs.declared.number.Number.{Number}
use Rattle.usbnum_core.specs.Spans.{span_has}
use Rattle.registry_rules.specs.Number.{number, name_of, span_name_of}
use Rattle.registry_rules.specs.History.{History}
use Rattle.registry_rules.specs.Query.{owner_of, is_held, org_of, enrolled, asked, petition_of, open_count, vendors, has_vendor, vendor_meant, licences, is_licence, is_fixed, is_reserved}
use Rattle.registry_rules.specs.Import.{Standing, classes_from}
use Rattle.registry_rules.specs.Verdict.{verdict, outcome, standing_of, standing_at, org_owning, org_petitioning, least_for, number_chosen, meets_fixed, all_reserved, least_owned, new_org, new_petition, new_card}
use Rattle.registry_rules.specs.Run.{Legal, request_of}
use Rattle.registry_rules.proofs.RunLemmas.{IsNew, is_new, legal_verdict}
use Rattle.registry_rules.proofs.CheckLemmas.{CanBeGiven, IsHeldByKeeper, enrol_ok, amend_org_ok, ask_ok, grant_ok, decline_ok, withdraw_ok, amend_ok, return_ok, reserve_ok, release_ok, import_ok, add_vendor_ok, add_licence_ok, hand_over_ok, correct_ok, correct_org_ok, revoke_ok}
use Rattle.registry_rules.proofs.ImportLemmas.{IsFreshItem, AreApart, all_fresh, all_apart}
use Rattle.registry_rules.proofs.SpanLemmas.{none_in_span, none_of_span, all_of_span}
use Rattle.registry_rules.specs.declared.deed.Deed.{Deed}
use Rattle.registry_rules.specs.declared.deed.Act.{Act}
use Rattle.registry_rules.specs.declared.deed.Act.TheVariants.{Enrolled, OrgAmended, Asked, Granted, Declined, Withdrawn, CardAmended, Returned, Reserved, Released, Imported, VendorAdded, LicenceAdded, HandedOver, CardCorrected, OrgCorrected, Revoked}
use Rattle.registry_rules.specs.declared.founding.Founding.{Founding}
use Rattle.registry_rules.specs.declared.item.Item.{Item}
use Rattle.registry_rules.specs.declared.limits.TheConstants.{MOST_ORGS, MOST_OPEN, MOST_PETITIONS, MOST_VENDORS, MOST_LICENCES}
use Rattle.registry_rules.specs.declared.name.NumberName.{NumberName}
use Rattle.registry_rules.specs.declared.name.SpanName.{SpanName}
use Rattle.registry_rules.specs.declared.order.Order.{Order}
use Rattle.registry_rules.specs.declared.order.Order.TheVariants as orders
use Rattle.registry_rules.specs.declared.order.Request.{Request}
use Rattle.registry_rules.specs.declared.record.Org.{Org}
use Rattle.registry_rules.specs.declared.record.Petition.{Petition}
use Rattle.registry_rules.specs.declared.record.PetitionState.TheVariants.{Open}
use Rattle.registry_rules.specs.declared.verdict.Verdict.TheVariants.{New}

-- The conditions of each kind of act.

pub record CanEnrol (h : History) (caller : List ℕ) (org : Org) : Type 0 where
  pub unknown : org_of h org.slug ≡ None
  pub below : nat_lt (length (enrolled h)) MOST_ORGS ≡ true
  pub keeper : org.keeper ≡ caller

pub record CanAmendOrg (h : History) (caller : List ℕ) (org : Org) : Type 0 where
  pub before : Org
  pub there : org_of h org.slug ≡ Some before
  pub keeper_before : before.keeper ≡ caller
  pub keeper : org.keeper ≡ caller

pub record CanAsk (h : History) (caller : List ℕ) (id : ℕ) (petition : Petition) : Type 0 where
  pub org : Org
  pub there : org_of h petition.org ≡ Some org
  pub keeper : org.keeper ≡ caller
  pub vendor : has_vendor h petition.vid ≡ true
  pub licence : is_licence h petition.terms.licence ≡ true
  pub few_open : nat_lt (open_count h petition.org) MOST_OPEN ≡ true
  pub below : nat_lt (length (asked h)) MOST_PETITIONS ≡ true
  pub next : id ≡ length (asked h) + 1
  pub is_open : petition.state ≡ Open

pub record CanGrant (h : History) (id : ℕ) (petition : Petition) (name : NumberName) : Type 0 where
  pub there : petition_of h id ≡ Some petition
  pub was_open : petition.state ≡ Open
  pub fits : CanBeGiven (standing_of h name.number) petition.org
  pub named : name ≡ name_of h.founding.vendor name.number

pub record CanClose (h : History) (id : ℕ) (petition : Petition) : Type 0 where
  pub there : petition_of h id ≡ Some petition
  pub was_open : petition.state ≡ Open

pub record CanChange (h : History) (caller : List ℕ) (name : NumberName) : Type 0 where
  pub holder : IsHeldByKeeper (standing_of h name.number) (org_owning h name.number) caller
  pub named : name ≡ name_of h.founding.vendor name.number

pub record CanReserve (h : History) (name : SpanName) : Type 0 where
  pub vendor : has_vendor h name.vid ≡ true
  pub unfixed : (pid : ℕ) → span_has name.span pid ≡ true → is_fixed h (number name.vid pid) ≡ false
  pub unowned : (pid : ℕ) → span_has name.span pid ≡ true → is_some (owner_of h (number name.vid pid)) ≡ false
  pub named : name ≡ span_name_of h.founding.vendor name.vid name.span

pub record CanRelease (h : History) (name : SpanName) : Type 0 where
  pub vendor : has_vendor h name.vid ≡ true
  pub unfixed : (pid : ℕ) → span_has name.span pid ≡ true → is_fixed h (number name.vid pid) ≡ false
  pub reserved : (pid : ℕ) → span_has name.span pid ≡ true → is_reserved h (number name.vid pid) ≡ true
  pub named : name ≡ span_name_of h.founding.vendor name.vid name.span

pub record CanImport (h : History) (vid : ℕ) (org : List ℕ) (fresh : List Item) : Type 0 where
  pub receiver : Org
  pub there : org_of h org ≡ Some receiver
  pub vendor : has_vendor h vid ≡ true
  pub each : AllByRecursion (IsFreshItem (standing_at h vid)) fresh
  pub apart : AreApart fresh

pub record CanAddVendor (h : History) (vid : ℕ) : Type 0 where
  pub unknown : has_vendor h vid ≡ false
  pub below : nat_lt (length (vendors h)) MOST_VENDORS ≡ true

pub record CanAddLicence (h : History) (licence : List ℕ) : Type 0 where
  pub unknown : is_licence h licence ≡ false
  pub below : nat_lt (length (licences h)) MOST_LICENCES ≡ true

pub record CanHandOver (h : History) (org : Org) : Type 0 where
  pub before : Org
  pub there : org_of h org.slug ≡ Some before
  pub same : org ≡ record before { keeper = org.keeper }

pub record CanCorrect (h : History) (name : NumberName) : Type 0 where
  pub owned : is_some (owner_of h name.number) ≡ true
  pub named : name ≡ name_of h.founding.vendor name.number

pub record CanCorrectOrg (h : History) (org : Org) : Type 0 where
  pub before : Org
  pub there : org_of h org.slug ≡ Some before
  pub keeper : before.keeper ≡ org.keeper

pub record CanRevoke (h : History) (name : NumberName) : Type 0 where
  pub held : is_held h name.number ≡ true
  pub named : name ≡ name_of h.founding.vendor name.number

-- the act of the caller meets its conditions in the history before it
abbrev pub Follows : History → List ℕ → Act → Type 0
Follows h caller (Enrolled org) = CanEnrol h caller org
Follows h caller (OrgAmended org) = CanAmendOrg h caller org
Follows h caller (Asked id petition) = CanAsk h caller id petition
Follows h caller (Granted id petition name) = CanGrant h id petition name
Follows h caller (Declined id petition reason) = CanClose h id petition
Follows h caller (Withdrawn id petition) = CanClose h id petition
Follows h caller (CardAmended name card) = CanChange h caller name
Follows h caller (Returned name) = CanChange h caller name
Follows h caller (Reserved name) = CanReserve h name
Follows h caller (Released name) = CanRelease h name
Follows h caller (Imported vid org fresh tally) = CanImport h vid org fresh
Follows h caller (VendorAdded vid name) = CanAddVendor h vid
Follows h caller (LicenceAdded licence) = CanAddLicence h licence
Follows h caller (HandedOver org) = CanHandOver h org
Follows h caller (CardCorrected name card) = CanCorrect h name
Follows h caller (OrgCorrected org) = CanCorrectOrg h org
Follows h caller (Revoked name) = CanRevoke h name

-- The steps.

org_by : (slug : List ℕ) (keeper : Option (List ℕ)) (found : Option Org) (org : Org) →
    option_and_then (λ keeper. option_map (λ (org : Org). record { slug = slug; title = org.title; site = org.site; keeper = keeper }) found) keeper ≡ Some org → org.slug ≡ slug
org_by slug None found org e = absurd cc
org_by slug (Some keeper) None org e = absurd cc
org_by slug (Some keeper) (Some found) org e =
    let same : Some (record { slug = slug; title = found.title; site = found.site; keeper = keeper }) ≡ Some org = e in cc

-- an organisation has the slug under which it is found
pub slug_is : (h : History) (slug : List ℕ) (org : Org) → org_of h slug ≡ Some org → org.slug ≡ slug
slug_is h slug org e = org_by slug _ _ org e

mapped : {A B : Type 0} (f : A → B) (found : Option A) (b : B) → option_map f found ≡ Some b → (a : A) × (found ≡ Some a) × (f a ≡ b)
mapped f None b e = absurd cc
mapped f (Some a) b e = (a, refl, (let same : Some (f a) ≡ Some b = e in cc))

-- the state that is found for a number is the state of that number
stands : (h : History) (found : Option Number) (standing : Standing) → option_map (standing_of h) found ≡ Some standing → standing ≡ standing_of h standing.number
stands h found standing e =
    let is = mapped (standing_of h) found standing e in
    subst (λ (s : Standing). s ≡ standing_of h s.number) is.2 refl

-- The act of an accepted order meets its conditions.

pub follows : (h : History) (caller : List ℕ) (order : Order) (act : Act) → outcome h caller order ≡ Ok act → Follows h caller act
unfolding outcome
follows h caller (orders.Enrol it) act e =
    let is = enrol_ok (org_of h it.org) (length (enrolled h)) (new_org caller it.org it.title it.site) act e in
    subst (Follows h caller) (sym is.does) (record { unknown = is.unknown; below = is.below; keeper = refl })
follows h caller (orders.AmendOrg it) act e =
    let is = amend_org_ok (org_of h it.org) caller it.title it.site act e in
    let slug : is.org.slug ≡ it.org = slug_is h it.org is.org is.there in
    subst (Follows h caller) (sym is.does)
    (record { before = is.org; there = ap (org_of h) slug ∙ is.there; keeper_before = is.keeper; keeper = is.keeper })
follows h caller (orders.Ask it) act e =
    let vid = vendor_meant h it.vendor in
    let is = ask_ok (org_of h it.org) (has_vendor h vid) (is_licence h it.terms.licence) (open_count h it.org) (length (asked h)) (option_map (standing_at h vid) it.want) caller (new_petition vid it.org it.want it.title it.terms) act e in
    subst (Follows h caller) (sym is.does)
    (record { org = is.org; there = is.there; keeper = is.keeper; vendor = is.vendor; licence = is.licence; few_open = is.few_open; below = is.below; next = refl; is_open = refl })
follows h caller (orders.Grant it) act e =
    let chosen = number_chosen it.number (petition_of h it.petition) (least_for h (petition_of h it.petition)) in
    let is = grant_ok h.founding.curators h.founding.vendor (petition_of h it.petition) (option_map (standing_of h) chosen) caller it.petition act e in
    let same : is.standing ≡ standing_of h is.standing.number = stands h chosen is.standing is.picked in
    subst (Follows h caller) (sym is.does)
    (record { there = is.there; was_open = is.was_open; fits = subst (λ (s : Standing). CanBeGiven s is.petition.org) same is.fits; named = refl })
follows h caller (orders.Decline it) act e =
    let is = decline_ok h.founding.curators (petition_of h it.petition) caller it.petition it.reason act e in
    subst (Follows h caller) (sym is.does) (record { there = is.there; was_open = is.was_open })
follows h caller (orders.Withdraw it) act e =
    let is = withdraw_ok (petition_of h it.petition) (org_petitioning h it.petition) caller it.petition act e in
    subst (Follows h caller) (sym is.does) (record { there = is.there; was_open = is.was_open })
follows h caller (orders.Amend it) act e =
    let n = number (vendor_meant h it.vendor) it.number in
    let is = amend_ok h.founding.vendor (standing_of h n) (org_owning h n) (is_licence h it.terms.licence) caller (new_card it.title it.terms) act e in
    subst (Follows h caller) (sym is.does) (record { holder = is.holder; named = refl })
follows h caller (orders.Return it) act e =
    let n = number (vendor_meant h it.vendor) it.number in
    let is = return_ok h.founding.vendor (standing_of h n) (org_owning h n) caller act e in
    subst (Follows h caller) (sym is.does) (record { holder = is.holder; named = refl })
follows h caller (orders.Reserve it) act e =
    let vid = vendor_meant h it.vendor in
    let is = reserve_ok h.founding.curators h.founding.vendor (has_vendor h vid) (meets_fixed h vid it.span) (least_owned h vid it.span) caller vid it.span act e in
    subst (Follows h caller) (sym is.does)
    (record {
      vendor = is.vendor;
      unfixed = none_of_span (λ pid. is_fixed h (number vid pid)) it.span is.unfixed;
      unowned = none_in_span (λ pid. is_some (owner_of h (number vid pid))) it.span is.unowned;
      named = refl;
    })
follows h caller (orders.Release it) act e =
    let vid = vendor_meant h it.vendor in
    let is = release_ok h.founding.curators h.founding.vendor (has_vendor h vid) (meets_fixed h vid it.span) (all_reserved h vid it.span) caller vid it.span act e in
    subst (Follows h caller) (sym is.does)
    (record {
      vendor = is.vendor;
      unfixed = none_of_span (λ pid. is_fixed h (number vid pid)) it.span is.unfixed;
      reserved = all_of_span (λ pid. is_reserved h (number vid pid)) it.span is.reserved;
      named = refl;
    })
follows h caller (orders.Import it) act e =
    let vid = vendor_meant h it.vendor in
    let is = import_ok h.founding.curators (org_of h it.org) (has_vendor h vid) (classes_from (standing_at h vid) [] it.items) caller vid it.org it.items act e in
    subst (Follows h caller) (sym is.does)
    (record { receiver = is.receiver; there = is.there; vendor = is.vendor; each = all_fresh (standing_at h vid) [] it.items; apart = all_apart (standing_at h vid) [] it.items })
follows h caller (orders.AddVendor it) act e =
    let is = add_vendor_ok h.founding.curators (has_vendor h it.vendor) (length (vendors h)) caller it.vendor it.name act e in
    subst (Follows h caller) (sym is.does) (record { unknown = is.unknown; below = is.below })
follows h caller (orders.AddLicence it) act e =
    let is = add_licence_ok h.founding.curators (is_licence h it.licence) (length (licences h)) caller it.licence act e in
    subst (Follows h caller) (sym is.does) (record { unknown = is.unknown; below = is.below })
follows h caller (orders.HandOver it) act e =
    let is = hand_over_ok h.founding.curators (org_of h it.org) caller it.keeper act e in
    let slug : is.org.slug ≡ it.org = slug_is h it.org is.org is.there in
    subst (Follows h caller) (sym is.does) (record { before = is.org; there = ap (org_of h) slug ∙ is.there; same = refl })
follows h caller (orders.Correct it) act e =
    let n = number (vendor_meant h it.vendor) it.number in
    let is = correct_ok h.founding.curators h.founding.vendor (standing_of h n) (is_licence h it.terms.licence) caller (new_card it.title it.terms) act e in
    subst (Follows h caller) (sym is.does) (record { owned = is.owned; named = refl })
follows h caller (orders.CorrectOrg it) act e =
    let is = correct_org_ok h.founding.curators (org_of h it.org) caller it.title it.site act e in
    let slug : is.org.slug ≡ it.org = slug_is h it.org is.org is.there in
    subst (Follows h caller) (sym is.does) (record { before = is.org; there = ap (org_of h) slug ∙ is.there; keeper = refl })
follows h caller (orders.Revoke it) act e =
    let n = number (vendor_meant h it.vendor) it.number in
    let is = revoke_ok h.founding.curators h.founding.vendor (standing_of h n) caller act e in
    subst (Follows h caller) (sym is.does) (record { held = is.held; named = refl })

-- so does the act of a new deed
pub new_follows : (h : History) (request : Request) (deed : Deed) → verdict h request ≡ New deed → Follows h deed.caller deed.act
new_follows h request deed e =
    let new : IsNew h request deed = is_new h request deed e in
    subst (λ (d : Deed). Follows h d.caller d.act) (sym new.does) (follows h request.caller request.order new.act new.accepted)

-- so does the act of each deed of a legal history
pub legal_follows : (founding : Founding) (deed : Deed) (earlier : List Deed) →
    Legal (record { founding = founding; deeds = deed ∷ earlier }) → Follows (record { founding = founding; deeds = earlier }) deed.caller deed.act
legal_follows founding deed earlier legal =
    new_follows (record { founding = founding; deeds = earlier }) (request_of deed) deed (legal_verdict founding deed earlier legal)
