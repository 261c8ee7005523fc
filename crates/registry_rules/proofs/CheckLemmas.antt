-- The checks of an accepted order: which of them passed, and what its act is.
use Rattle.std.proofs.Common.{◌≡◌, ℕ, ◌+◌, List, Option, Some, None, Result, Ok, Err, Bool, true, false, length, refl, sym}
use Rattle.std.specs.Prelude.{not, nat_lt, nat_le, is_some, ◌||◌}
use Rattle.std.specs.List.{list_any}
use Rattle.std.specs.Str.{bytes_eq}
use Rattle.std.proofs.lemmas.Slice.Eq.{bytes_eq-Decides}
use Rattle.usbnum_core.specs.declared.number.Span.{Span}
use Rattle.registry_rules.specs.Number.{name_of, span_name_of}
use Rattle.registry_rules.specs.Query.{is_open}
use Rattle.registry_rules.specs.Import.{Standing, fresh_of, tally_of}
use Rattle.registry_rules.specs.Checks.{◌>>=◌, Passed, ◌>>◌, check, present, open_petition, by_known_keeper, not_anothers, can_be_given, wanted_can_be_given, held_by_keeper, none_owned, enrol_checks, amend_org_checks, ask_checks, grant_checks, decline_checks, withdraw_checks, amend_checks, return_checks, reserve_checks, release_checks, import_checks, add_vendor_checks, add_licence_checks, hand_over_checks, correct_checks, correct_org_checks, revoke_checks}
use Rattle.registry_rules.specs.declared.deed.Act.{Act}
use Rattle.registry_rules.specs.declared.deed.Act.TheVariants.{Enrolled, OrgAmended, Asked, Granted, Declined, Withdrawn, CardAmended, Returned, Reserved, Released, Imported, VendorAdded, LicenceAdded, HandedOver, CardCorrected, OrgCorrected, Revoked}
use Rattle.registry_rules.specs.declared.item.Item.{Item}
use Rattle.registry_rules.specs.declared.item.ItemClass.{ItemClass}
use Rattle.registry_rules.specs.declared.limits.TheConstants.{MOST_ORGS, MOST_OPEN, MOST_PETITIONS, MOST_ITEMS, MOST_VENDORS, MOST_LICENCES}
use Rattle.registry_rules.specs.declared.record.Org.{Org}
use Rattle.registry_rules.specs.declared.record.Petition.{Petition}
use Rattle.registry_rules.specs.declared.record.PetitionState.{PetitionState}
use Rattle.registry_rules.specs.declared.record.PetitionState.TheVariants.{Open, Granted as StateGranted, Declined as StateDeclined, Withdrawn as StateWithdrawn}
use Rattle.registry_rules.specs.declared.record.Card.{Card}
use Rattle.registry_rules.specs.declared.refusal.Refusal.{Refusal}

-- Steps that passed.

-- a check that passed, and the result of the step after it
passed : {B : Type 0} (b : Bool) (refusal : Refusal) (next : Result B Refusal) (x : B) → (check b refusal >> next) ≡ Ok x → (b ≡ true) × (next ≡ Ok x)
passed true refusal next x e = (refl, e)
passed false refusal next x e = absurd cc

-- a check that passed as the last step
checked : (b : Bool) (refusal : Refusal) (x : Passed) → check b refusal ≡ Ok x → b ≡ true
checked true refusal x e = refl
checked false refusal x e = absurd cc

then_ok : {B : Type 0} (step : Result Passed Refusal) (next : Result B Refusal) (x : B) → (step >> next) ≡ Ok x → (step ≡ Ok tt) × (next ≡ Ok x)
then_ok (Ok u) next x e = (refl, e)
then_ok (Err refusal) next x e = absurd cc

was_there : {A B : Type 0} (found : Option A) (refusal : Refusal) (f : A → Result B Refusal) (x : B) → (present found refusal >>= f) ≡ Ok x → (a : A) × (found ≡ Some a) × (f a ≡ Ok x)
was_there None refusal f x e = absurd cc
was_there (Some a) refusal f x e = (a, refl, e)

-- `Open` is the only open state
pub open_is : (state : PetitionState) → is_open state ≡ true → state ≡ Open
open_is Open e = refl
open_is (StateGranted pid) e = absurd cc
open_is StateDeclined e = absurd cc
open_is StateWithdrawn e = absurd cc

opened_by : {B : Type 0} (b : Bool) (refusal : Refusal) (petition : Petition) (f : Petition → Result B Refusal) (x : B) → ((check b refusal >> Ok petition) >>= f) ≡ Ok x → (b ≡ true) × (f petition ≡ Ok x)
opened_by true refusal petition f x e = (refl, e)
opened_by false refusal petition f x e = absurd cc

opened : {B : Type 0} (found : Option Petition) (f : Petition → Result B Refusal) (x : B) → (open_petition found >>= f) ≡ Ok x → (petition : Petition) × (found ≡ Some petition) × (petition.state ≡ Open) × (f petition ≡ Ok x)
opened None f x e = absurd cc
opened (Some petition) f x e =
    let both = opened_by (is_open petition.state) _ petition f x e in (petition, refl, open_is petition.state both.0, both.1)

not_false : (b : Bool) → not b ≡ true → b ≡ false
not_false true e = sym e
not_false false e = refl

bytes_same : (a b : List ℕ) → bytes_eq a b ≡ true → a ≡ b
bytes_same a b e = (bytes_eq-Decides a b).0 e

-- The number that an act gives.

-- the number has no owner, or the organisation owns it and does not hold it
abbrev pub OwnerFits : Option (List ℕ) → Bool → List ℕ → Type 0
OwnerFits None held org = Unit {0}
OwnerFits (Some owner) held org = (owner ≡ org) × (held ≡ false)

pub record CanBeGiven (standing : Standing) (org : List ℕ) : Type 0 where
  pub unreserved : standing.reserved ≡ false
  pub owner : OwnerFits standing.owner standing.held org

owner_fits : (owner : Option (List ℕ)) (held : Bool) (org : List ℕ) (x : Passed) → not_anothers owner held org ≡ Ok x → OwnerFits owner held org
owner_fits None held org x e = tt
owner_fits (Some owner) held org x e =
    let same = passed (bytes_eq owner org) _ _ x e in (bytes_same owner org same.0, not_false held (checked (not held) _ x same.1))

pub given_ok : (standing : Standing) (org : List ℕ) (x : Passed) → can_be_given standing org ≡ Ok x → CanBeGiven standing org
given_ok standing org x e =
    let first = passed (not standing.reserved) _ _ x e in
    record { unreserved = not_false standing.reserved first.0; owner = owner_fits standing.owner standing.held org x first.1 }

-- The kinds of order.

pub record IsEnrolment (known : Option Org) (orgs : ℕ) (org : Org) (act : Act) : Type 0 where
  pub unknown : known ≡ None
  pub below : nat_lt orgs MOST_ORGS ≡ true
  pub does : act ≡ Enrolled org

pub enrol_ok : (known : Option Org) (orgs : ℕ) (org : Org) (act : Act) → enrol_checks known orgs org ≡ Ok act → IsEnrolment known orgs org act
enrol_ok None orgs org act e =
    let room = passed (nat_lt orgs MOST_ORGS) _ _ act e in
    let same : Ok (Enrolled org) ≡ Ok act = room.1 in
    record { unknown = refl; below = room.0; does = cc }
enrol_ok (Some known) orgs org act e = absurd cc

pub record IsOrgAmendment (known : Option Org) (caller title site : List ℕ) (act : Act) : Type 0 where
  pub org : Org
  pub there : known ≡ Some org
  pub keeper : org.keeper ≡ caller
  pub does : act ≡ OrgAmended (record org { title = title; site = site })

pub amend_org_ok : (known : Option Org) (caller title site : List ℕ) (act : Act) → amend_org_checks known caller title site ≡ Ok act → IsOrgAmendment known caller title site act
amend_org_ok None caller title site act e = absurd cc
amend_org_ok (Some org) caller title site act e =
    let kept = passed (bytes_eq org.keeper caller) _ _ act e in
    let same : Ok (OrgAmended (record org { title = title; site = site })) ≡ Ok act = kept.1 in
    record { org = org; there = refl; keeper = bytes_same org.keeper caller kept.0; does = cc }

pub record IsAsk (known : Option Org) (vendor_there allowed : Bool) (still_open petitions : ℕ) (wanted : Option Standing) (caller : List ℕ) (petition : Petition) (act : Act) : Type 0 where
  pub org : Org
  pub there : known ≡ Some org
  pub keeper : org.keeper ≡ caller
  pub vendor : vendor_there ≡ true
  pub licence : allowed ≡ true
  pub few_open : nat_lt still_open MOST_OPEN ≡ true
  pub below : nat_lt petitions MOST_PETITIONS ≡ true
  pub want : wanted_can_be_given wanted petition.org ≡ Ok tt
  pub does : act ≡ Asked (petitions + 1) petition

pub ask_ok : (known : Option Org) (vendor_there allowed : Bool) (still_open petitions : ℕ) (wanted : Option Standing) (caller : List ℕ) (petition : Petition) (act : Act) →
    ask_checks known vendor_there allowed still_open petitions wanted caller petition ≡ Ok act → IsAsk known vendor_there allowed still_open petitions wanted caller petition act
ask_ok None vendor_there allowed still_open petitions wanted caller petition act e = absurd cc
ask_ok (Some org) vendor_there allowed still_open petitions wanted caller petition act e =
    let a = passed (bytes_eq org.keeper caller) _ _ act e in
    let b = passed vendor_there _ _ act a.1 in
    let c = passed allowed _ _ act b.1 in
    let d = passed (nat_lt still_open MOST_OPEN) _ _ act c.1 in
    let f = passed (nat_lt petitions MOST_PETITIONS) _ _ act d.1 in
    let g = then_ok (wanted_can_be_given wanted petition.org) _ act f.1 in
    let same : Ok (Asked (petitions + 1) petition) ≡ Ok act = g.1 in
    record {
      org = org;
      there = refl;
      keeper = bytes_same org.keeper caller a.0;
      vendor = b.0;
      licence = c.0;
      few_open = d.0;
      below = f.0;
      want = g.0;
      does = cc;
    }

pub record IsGrant (curators : List (List ℕ)) (founding : ℕ) (found : Option Petition) (chosen : Option Standing) (caller : List ℕ) (id : ℕ) (act : Act) : Type 0 where
  pub petition : Petition
  pub standing : Standing
  pub curator : list_any (bytes_eq caller) curators ≡ true
  pub there : found ≡ Some petition
  pub was_open : petition.state ≡ Open
  pub picked : chosen ≡ Some standing
  pub fits : CanBeGiven standing petition.org
  pub does : act ≡ Granted id petition (name_of founding standing.number)

pub grant_ok : (curators : List (List ℕ)) (founding : ℕ) (found : Option Petition) (chosen : Option Standing) (caller : List ℕ) (id : ℕ) (act : Act) →
    grant_checks curators founding found chosen caller id ≡ Ok act → IsGrant curators founding found chosen caller id act
grant_ok curators founding found chosen caller id act e =
    let a = passed (list_any (bytes_eq caller) curators) _ _ act e in
    let b = opened found _ act a.1 in
    let c = was_there chosen _ _ act b.3 in
    let d = then_ok (can_be_given c.0 b.0.org) _ act c.2 in
    let same : Ok (Granted id b.0 (name_of founding c.0.number)) ≡ Ok act = d.1 in
    record {
      petition = b.0;
      standing = c.0;
      curator = a.0;
      there = b.1;
      was_open = b.2;
      picked = c.1;
      fits = given_ok c.0 b.0.org tt d.0;
      does = cc;
    }

pub record IsDecline (curators : List (List ℕ)) (found : Option Petition) (caller : List ℕ) (id : ℕ) (reason : Option (List ℕ)) (act : Act) : Type 0 where
  pub petition : Petition
  pub curator : list_any (bytes_eq caller) curators ≡ true
  pub there : found ≡ Some petition
  pub was_open : petition.state ≡ Open
  pub does : act ≡ Declined id petition reason

pub decline_ok : (curators : List (List ℕ)) (found : Option Petition) (caller : List ℕ) (id : ℕ) (reason : Option (List ℕ)) (act : Act) →
    decline_checks curators found caller id reason ≡ Ok act → IsDecline curators found caller id reason act
decline_ok curators found caller id reason act e =
    let a = passed (list_any (bytes_eq caller) curators) _ _ act e in
    let b = opened found _ act a.1 in
    let same : Ok (Declined id b.0 reason) ≡ Ok act = b.3 in
    record { petition = b.0; curator = a.0; there = b.1; was_open = b.2; does = cc }

by_known : (known : Option Org) (caller : List ℕ) (x : Passed) → by_known_keeper known caller ≡ Ok x → (org : Org) × (known ≡ Some org) × (org.keeper ≡ caller)
by_known None caller x e = absurd cc
by_known (Some org) caller x e = (org, refl, bytes_same org.keeper caller (checked (bytes_eq org.keeper caller) _ x e))

pub record IsWithdrawal (found : Option Petition) (known : Option Org) (caller : List ℕ) (id : ℕ) (act : Act) : Type 0 where
  pub petition : Petition
  pub org : Org
  pub there : found ≡ Some petition
  pub org_there : known ≡ Some org
  pub keeper : org.keeper ≡ caller
  pub was_open : petition.state ≡ Open
  pub does : act ≡ Withdrawn id petition

pub withdraw_ok : (found : Option Petition) (known : Option Org) (caller : List ℕ) (id : ℕ) (act : Act) → withdraw_checks found known caller id ≡ Ok act → IsWithdrawal found known caller id act
withdraw_ok found known caller id act e =
    let a = was_there found _ _ act e in
    let b = then_ok (by_known_keeper known caller) _ act a.2 in
    let c = by_known known caller tt b.0 in
    let d = passed (is_open a.0.state) _ _ act b.1 in
    let same : Ok (Withdrawn id a.0) ≡ Ok act = d.1 in
    record { petition = a.0; org = c.0; there = a.1; org_there = c.1; keeper = c.2; was_open = open_is a.0.state d.0; does = cc }

-- the number is held, and the caller is the keeper of its owner
pub record IsHeldByKeeper (standing : Standing) (known : Option Org) (caller : List ℕ) : Type 0 where
  pub org : Org
  pub held : standing.held ≡ true
  pub there : known ≡ Some org
  pub keeper : org.keeper ≡ caller

held_ok : (standing : Standing) (known : Option Org) (caller : List ℕ) (x : Passed) → held_by_keeper standing known caller ≡ Ok x → IsHeldByKeeper standing known caller
held_ok standing known caller x e =
    let a = passed standing.held _ _ x e in
    let b = by_known known caller x a.1 in
    record { org = b.0; held = a.0; there = b.1; keeper = b.2 }

pub record IsAmendment (founding : ℕ) (standing : Standing) (known : Option Org) (allowed : Bool) (caller : List ℕ) (card : Card) (act : Act) : Type 0 where
  pub holder : IsHeldByKeeper standing known caller
  pub licence : allowed ≡ true
  pub does : act ≡ CardAmended (name_of founding standing.number) card

pub amend_ok : (founding : ℕ) (standing : Standing) (known : Option Org) (allowed : Bool) (caller : List ℕ) (card : Card) (act : Act) →
    amend_checks founding standing known allowed caller card ≡ Ok act → IsAmendment founding standing known allowed caller card act
amend_ok founding standing known allowed caller card act e =
    let a = then_ok (held_by_keeper standing known caller) _ act e in
    let b = passed allowed _ _ act a.1 in
    let same : Ok (CardAmended (name_of founding standing.number) card) ≡ Ok act = b.1 in
    record { holder = held_ok standing known caller tt a.0; licence = b.0; does = cc }

pub record IsReturn (founding : ℕ) (standing : Standing) (known : Option Org) (caller : List ℕ) (act : Act) : Type 0 where
  pub holder : IsHeldByKeeper standing known caller
  pub does : act ≡ Returned (name_of founding standing.number)

pub return_ok : (founding : ℕ) (standing : Standing) (known : Option Org) (caller : List ℕ) (act : Act) → return_checks founding standing known caller ≡ Ok act → IsReturn founding standing known caller act
return_ok founding standing known caller act e =
    let a = then_ok (held_by_keeper standing known caller) _ act e in
    let same : Ok (Returned (name_of founding standing.number)) ≡ Ok act = a.1 in
    record { holder = held_ok standing known caller tt a.0; does = cc }

unowned : (founding vid : ℕ) (least_owned : Option ℕ) (x : Passed) → none_owned founding vid least_owned ≡ Ok x → least_owned ≡ None
unowned founding vid None x e = refl
unowned founding vid (Some pid) x e = absurd cc

pub record IsReservation (curators : List (List ℕ)) (founding : ℕ) (vendor_there meets_fixed : Bool) (least_owned : Option ℕ) (caller : List ℕ) (vid : ℕ) (span : Span) (act : Act) : Type 0 where
  pub curator : list_any (bytes_eq caller) curators ≡ true
  pub vendor : vendor_there ≡ true
  pub unfixed : meets_fixed ≡ false
  pub unowned : least_owned ≡ None
  pub does : act ≡ Reserved (span_name_of founding vid span)

pub reserve_ok : (curators : List (List ℕ)) (founding : ℕ) (vendor_there meets_fixed : Bool) (least_owned : Option ℕ) (caller : List ℕ) (vid : ℕ) (span : Span) (act : Act) →
    reserve_checks curators founding vendor_there meets_fixed least_owned caller vid span ≡ Ok act → IsReservation curators founding vendor_there meets_fixed least_owned caller vid span act
reserve_ok curators founding vendor_there meets_fixed least_owned caller vid span act e =
    let a = passed (list_any (bytes_eq caller) curators) _ _ act e in
    let b = passed vendor_there _ _ act a.1 in
    let c = passed (not meets_fixed) _ _ act b.1 in
    let d = then_ok (none_owned founding vid least_owned) _ act c.1 in
    let same : Ok (Reserved (span_name_of founding vid span)) ≡ Ok act = d.1 in
    record { curator = a.0; vendor = b.0; unfixed = not_false meets_fixed c.0; unowned = unowned founding vid least_owned tt d.0; does = cc }

pub record IsRelease (curators : List (List ℕ)) (founding : ℕ) (vendor_there meets_fixed all_reserved : Bool) (caller : List ℕ) (vid : ℕ) (span : Span) (act : Act) : Type 0 where
  pub curator : list_any (bytes_eq caller) curators ≡ true
  pub vendor : vendor_there ≡ true
  pub unfixed : meets_fixed ≡ false
  pub reserved : all_reserved ≡ true
  pub does : act ≡ Released (span_name_of founding vid span)

pub release_ok : (curators : List (List ℕ)) (founding : ℕ) (vendor_there meets_fixed all_reserved : Bool) (caller : List ℕ) (vid : ℕ) (span : Span) (act : Act) →
    release_checks curators founding vendor_there meets_fixed all_reserved caller vid span ≡ Ok act → IsRelease curators founding vendor_there meets_fixed all_reserved caller vid span act
release_ok curators founding vendor_there meets_fixed all_reserved caller vid span act e =
    let a = passed (list_any (bytes_eq caller) curators) _ _ act e in
    let b = passed vendor_there _ _ act a.1 in
    let c = passed (not meets_fixed) _ _ act b.1 in
    let d = passed all_reserved _ _ act c.1 in
    let same : Ok (Released (span_name_of founding vid span)) ≡ Ok act = d.1 in
    record { curator = a.0; vendor = b.0; unfixed = not_false meets_fixed c.0; reserved = d.0; does = cc }

pub record IsImport (curators : List (List ℕ)) (known : Option Org) (vendor_there : Bool) (classes : List ItemClass) (caller : List ℕ) (vid : ℕ) (org : List ℕ) (items : List Item) (act : Act) : Type 0 where
  pub receiver : Org
  pub curator : list_any (bytes_eq caller) curators ≡ true
  pub there : known ≡ Some receiver
  pub vendor : vendor_there ≡ true
  pub few : nat_le (length items) MOST_ITEMS ≡ true
  pub does : act ≡ Imported vid org (fresh_of classes items) (tally_of classes)

pub import_ok : (curators : List (List ℕ)) (known : Option Org) (vendor_there : Bool) (classes : List ItemClass) (caller : List ℕ) (vid : ℕ) (org : List ℕ) (items : List Item) (act : Act) →
    import_checks curators known vendor_there classes caller vid org items ≡ Ok act → IsImport curators known vendor_there classes caller vid org items act
import_ok curators known vendor_there classes caller vid org items act e =
    let a = passed (list_any (bytes_eq caller) curators) _ _ act e in
    let b = was_there known _ _ act a.1 in
    let c = passed vendor_there _ _ act b.2 in
    let d = passed (nat_le (length items) MOST_ITEMS) _ _ act c.1 in
    let same : Ok (Imported vid org (fresh_of classes items) (tally_of classes)) ≡ Ok act = d.1 in
    record { receiver = b.0; curator = a.0; there = b.1; vendor = c.0; few = d.0; does = cc }

pub record IsVendorAddition (curators : List (List ℕ)) (vendor_there : Bool) (vendors : ℕ) (caller : List ℕ) (vid : ℕ) (name : List ℕ) (act : Act) : Type 0 where
  pub curator : list_any (bytes_eq caller) curators ≡ true
  pub unknown : vendor_there ≡ false
  pub below : nat_lt vendors MOST_VENDORS ≡ true
  pub does : act ≡ VendorAdded vid name

pub add_vendor_ok : (curators : List (List ℕ)) (vendor_there : Bool) (vendors : ℕ) (caller : List ℕ) (vid : ℕ) (name : List ℕ) (act : Act) →
    add_vendor_checks curators vendor_there vendors caller vid name ≡ Ok act → IsVendorAddition curators vendor_there vendors caller vid name act
add_vendor_ok curators vendor_there vendors caller vid name act e =
    let a = passed (list_any (bytes_eq caller) curators) _ _ act e in
    let b = passed (not vendor_there) _ _ act a.1 in
    let c = passed (nat_lt vendors MOST_VENDORS) _ _ act b.1 in
    let same : Ok (VendorAdded vid name) ≡ Ok act = c.1 in
    record { curator = a.0; unknown = not_false vendor_there b.0; below = c.0; does = cc }

pub record IsLicenceAddition (curators : List (List ℕ)) (allowed : Bool) (licences : ℕ) (caller licence : List ℕ) (act : Act) : Type 0 where
  pub curator : list_any (bytes_eq caller) curators ≡ true
  pub unknown : allowed ≡ false
  pub below : nat_lt licences MOST_LICENCES ≡ true
  pub does : act ≡ LicenceAdded licence

pub add_licence_ok : (curators : List (List ℕ)) (allowed : Bool) (licences : ℕ) (caller licence : List ℕ) (act : Act) →
    add_licence_checks curators allowed licences caller licence ≡ Ok act → IsLicenceAddition curators allowed licences caller licence act
add_licence_ok curators allowed licences caller licence act e =
    let a = passed (list_any (bytes_eq caller) curators) _ _ act e in
    let b = passed (not allowed) _ _ act a.1 in
    let c = passed (nat_lt licences MOST_LICENCES) _ _ act b.1 in
    let same : Ok (LicenceAdded licence) ≡ Ok act = c.1 in
    record { curator = a.0; unknown = not_false allowed b.0; below = c.0; does = cc }

pub record IsHandOver (curators : List (List ℕ)) (known : Option Org) (caller keeper : List ℕ) (act : Act) : Type 0 where
  pub org : Org
  pub there : known ≡ Some org
  pub by : (bytes_eq org.keeper caller || list_any (bytes_eq caller) curators) ≡ true
  pub does : act ≡ HandedOver (record org { keeper = keeper })

pub hand_over_ok : (curators : List (List ℕ)) (known : Option Org) (caller keeper : List ℕ) (act : Act) →
    hand_over_checks curators known caller keeper ≡ Ok act → IsHandOver curators known caller keeper act
hand_over_ok curators None caller keeper act e = absurd cc
hand_over_ok curators (Some org) caller keeper act e =
    let a = passed (bytes_eq org.keeper caller || list_any (bytes_eq caller) curators) _ _ act e in
    let same : Ok (HandedOver (record org { keeper = keeper })) ≡ Ok act = a.1 in
    record { org = org; there = refl; by = a.0; does = cc }

pub record IsCorrection (curators : List (List ℕ)) (founding : ℕ) (standing : Standing) (allowed : Bool) (caller : List ℕ) (card : Card) (act : Act) : Type 0 where
  pub curator : list_any (bytes_eq caller) curators ≡ true
  pub owned : is_some standing.owner ≡ true
  pub licence : allowed ≡ true
  pub does : act ≡ CardCorrected (name_of founding standing.number) card

pub correct_ok : (curators : List (List ℕ)) (founding : ℕ) (standing : Standing) (allowed : Bool) (caller : List ℕ) (card : Card) (act : Act) →
    correct_checks curators founding standing allowed caller card ≡ Ok act → IsCorrection curators founding standing allowed caller card act
correct_ok curators founding standing allowed caller card act e =
    let a = passed (list_any (bytes_eq caller) curators) _ _ act e in
    let b = passed (is_some standing.owner) _ _ act a.1 in
    let c = passed allowed _ _ act b.1 in
    let same : Ok (CardCorrected (name_of founding standing.number) card) ≡ Ok act = c.1 in
    record { curator = a.0; owned = b.0; licence = c.0; does = cc }

pub record IsOrgCorrection (curators : List (List ℕ)) (known : Option Org) (caller title site : List ℕ) (act : Act) : Type 0 where
  pub org : Org
  pub curator : list_any (bytes_eq caller) curators ≡ true
  pub there : known ≡ Some org
  pub does : act ≡ OrgCorrected (record org { title = title; site = site })

pub correct_org_ok : (curators : List (List ℕ)) (known : Option Org) (caller title site : List ℕ) (act : Act) →
    correct_org_checks curators known caller title site ≡ Ok act → IsOrgCorrection curators known caller title site act
correct_org_ok curators known caller title site act e =
    let a = passed (list_any (bytes_eq caller) curators) _ _ act e in
    let b = was_there known _ _ act a.1 in
    let same : Ok (OrgCorrected (record b.0 { title = title; site = site })) ≡ Ok act = b.2 in
    record { org = b.0; curator = a.0; there = b.1; does = cc }

pub record IsRevocation (curators : List (List ℕ)) (founding : ℕ) (standing : Standing) (caller : List ℕ) (act : Act) : Type 0 where
  pub curator : list_any (bytes_eq caller) curators ≡ true
  pub held : standing.held ≡ true
  pub does : act ≡ Revoked (name_of founding standing.number)

pub revoke_ok : (curators : List (List ℕ)) (founding : ℕ) (standing : Standing) (caller : List ℕ) (act : Act) →
    revoke_checks curators founding standing caller ≡ Ok act → IsRevocation curators founding standing caller act
revoke_ok curators founding standing caller act e =
    let a = passed (list_any (bytes_eq caller) curators) _ _ act e in
    let b = passed standing.held _ _ act a.1 in
    let same : Ok (Revoked (name_of founding standing.number)) ≡ Ok act = b.1 in
    record { curator = a.0; held = b.0; does = cc }
