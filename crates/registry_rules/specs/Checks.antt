-- The checks of each kind of order, in the sequence in which they run. The numbers in the comments are those of the refusals.
use Rattle.std.specs.Prelude.{ℕ, ◌+◌, List, Option, Some, None, Result, Ok, Err, Bool, true, false, not, nat_lt, nat_le, ◌||◌, length, is_none, is_some}
use Rattle.std.specs.List.{list_any}
use Rattle.std.specs.Str.{bytes_eq}
use Rattle.usbnum_core.specs.declared.number.Span.{Span}
use Rattle.registry_rules.specs.Values.{Slug, Title, Link, Licence, VendorId, ProductId, PetitionId}
use Rattle.registry_rules.specs.Number.{name_of, span_name_of, number}
use Rattle.registry_rules.specs.Query.{is_open}
use Rattle.registry_rules.specs.Import.{Standing, fresh_of, tally_of}
use Rattle.registry_rules.specs.declared.deed.Act.{Act}
use Rattle.registry_rules.specs.declared.deed.Act.TheVariants.{Enrolled, OrgAmended, Asked, Granted, Declined, Withdrawn, CardAmended, Returned, Reserved, Released, Imported, VendorAdded, LicenceAdded, HandedOver, CardCorrected, OrgCorrected, Revoked}
use Rattle.registry_rules.specs.declared.item.Item.{Item}
use Rattle.registry_rules.specs.declared.item.ItemClass.{ItemClass}
use Rattle.registry_rules.specs.Limits.{most_orgs, most_open, most_petitions, most_items, most_vendors, most_licences}
use Rattle.registry_rules.specs.declared.record.Org.{Org}
use Rattle.registry_rules.specs.declared.record.Petition.{Petition}
use Rattle.registry_rules.specs.declared.record.Card.{Card}
use Rattle.registry_rules.specs.declared.refusal.Refusal.{Refusal}
use Rattle.registry_rules.specs.declared.refusal.Refusal.TheVariants.{NotCurator, NotKeeper, NoOrg, OrgTaken, NoPetition, PetitionClosed, NumberReserved, NumberOwned, NumberHeld, NumberNotHeld, NoneFree, LicenceUnknown, TooManyOpen, RangeOwned, RangeFixed, RangeNotReserved, Full, ImportTooLong, VendorTaken, NoVendor, LicenceTaken}

-- the second step on the value of the first, or the error of the first
infixl 10 ◌>>=◌
abbrev pub ◌>>=◌ : {E A B : Type 0} → Result A E → (A → Result B E) → Result B E
(Ok x) >>= f = f x
(Err e) >>= f = Err e

-- the value of a check that passes
abbrev pub Passed : Type 0
Passed = Unit {0}

-- the next step after a check that passes, or the error of the check
infixl 10 ◌>>◌
abbrev pub ◌>>◌ : {E B : Type 0} → Result Passed E → Result B E → Result B E
(Ok x) >> next = next
(Err e) >> next = Err e

-- passes if the test does, otherwise refuses
abbrev pub check : Bool → Refusal → Result Passed Refusal
check true refusal = Ok tt
check false refusal = Err refusal

-- the value, or the refusal if there is none
abbrev pub present : {A : Type 0} → Option A → Refusal → Result A Refusal
present (Some x) refusal = Ok x
present None refusal = Err refusal

-- 2: the caller is a curator
abbrev pub by_curator : List Slug → Slug → Result Passed Refusal
by_curator curators caller = check (list_any (bytes_eq caller) curators) NotCurator

-- 3: the caller is the organisation's keeper
abbrev pub by_keeper : Org → Slug → Result Passed Refusal
by_keeper org caller = check (bytes_eq org.keeper caller) NotKeeper

-- 3: the caller is the organisation's keeper, or a curator
abbrev pub by_keeper_or_curator : List Slug → Org → Slug → Result Passed Refusal
by_keeper_or_curator curators org caller = check (bytes_eq org.keeper caller || list_any (bytes_eq caller) curators) NotKeeper

-- 3: the caller is the keeper of the organisation of a petition or of a held number; in a legal history it exists
abbrev pub by_known_keeper : Option Org → Slug → Result Passed Refusal
by_known_keeper None caller = Err NotKeeper
by_known_keeper (Some org) caller = by_keeper org caller

-- 6, 7: the petition, if it exists and is open
abbrev pub open_petition : Option Petition → Result Petition Refusal
open_petition petition = do
  petition ← present petition NoPetition
  check (is_open petition.state) PetitionClosed
  Ok petition

-- 9, 10: the number has no owner, or the organisation owns it and does not hold it
abbrev pub not_anothers : Option Slug → Bool → Slug → Result Passed Refusal
not_anothers None held org = Ok tt
not_anothers (Some owner) held org = do
  check (bytes_eq owner org) (NumberOwned owner)
  check (not held) NumberHeld

-- 8, 9, 10: the number can be given to the organisation
abbrev pub can_be_given : Standing → Slug → Result Passed Refusal
can_be_given standing org = do
  check (not standing.reserved) NumberReserved
  not_anothers standing.owner standing.held org

-- 8, 9, 10: the same for the number that a petition wants; passes if it names none
abbrev pub wanted_can_be_given : Option Standing → Slug → Result Passed Refusal
wanted_can_be_given None org = Ok tt
wanted_can_be_given (Some standing) org = can_be_given standing org

-- 11, 3: the number is held, and the caller is the keeper of its owner
abbrev pub held_by_keeper : Standing → Option Org → Slug → Result Passed Refusal
held_by_keeper standing known caller = do
  check standing.held NumberNotHeld
  by_known_keeper known caller

-- Each kind of order: its checks by their refusals, then its act. `outcome` in Verdict and `outcome_on` in OnFacts supply the
-- arguments: `known` is the organisation concerned, if it exists; an argument of type ℕ is a count.

-- Enrol. Refusals: 5, 18
abbrev pub enrol_checks : Option Org → ℕ → Org → Result Act Refusal
enrol_checks known orgs org = do
  check (is_none known) OrgTaken
  check (nat_lt orgs most_orgs) Full
  Ok (Enrolled org)

-- AmendOrg. Refusals: 4, 3
abbrev pub amend_org_checks : Option Org → Slug → Title → Link → Result Act Refusal
amend_org_checks known caller title site = do
  org ← present known NoOrg
  by_keeper org caller
  Ok (OrgAmended (record org { title = title; site = site }))

-- Ask. Refusals: 4, 3, 34, 13, 14, 18, 8, 9, 10
abbrev pub ask_checks : Option Org → Bool → Bool → ℕ → ℕ → Option Standing → Slug → Petition → Result Act Refusal
ask_checks known vendor_there allowed still_open petitions wanted caller petition = do
  org ← present known NoOrg
  by_keeper org caller
  check vendor_there NoVendor
  check allowed LicenceUnknown
  check (nat_lt still_open most_open) TooManyOpen
  check (nat_lt petitions most_petitions) Full
  wanted_can_be_given wanted petition.org
  Ok (Asked (petitions + 1) petition)

-- Grant. Refusals: 2, 6, 7, 12, 8, 9, 10
abbrev pub grant_checks : List Slug → VendorId → Option Petition → Option Standing → Slug → PetitionId → Result Act Refusal
grant_checks curators founding_vendor petition chosen caller id = do
  by_curator curators caller
  petition ← open_petition petition
  standing ← present chosen NoneFree
  can_be_given standing petition.org
  Ok (Granted id petition (name_of founding_vendor standing.number))

-- Decline. Refusals: 2, 6, 7
abbrev pub decline_checks : List Slug → Option Petition → Slug → PetitionId → Option Title → Result Act Refusal
decline_checks curators petition caller id reason = do
  by_curator curators caller
  petition ← open_petition petition
  Ok (Declined id petition reason)

-- Withdraw. Refusals: 6, 3, 7
abbrev pub withdraw_checks : Option Petition → Option Org → Slug → PetitionId → Result Act Refusal
withdraw_checks petition known caller id = do
  petition ← present petition NoPetition
  by_known_keeper known caller
  check (is_open petition.state) PetitionClosed
  Ok (Withdrawn id petition)

-- Amend. Refusals: 11, 3, 13
abbrev pub amend_checks : VendorId → Standing → Option Org → Bool → Slug → Card → Result Act Refusal
amend_checks founding_vendor standing known allowed caller card = do
  held_by_keeper standing known caller
  check allowed LicenceUnknown
  Ok (CardAmended (name_of founding_vendor standing.number) card)

-- Return. Refusals: 11, 3
abbrev pub return_checks : VendorId → Standing → Option Org → Slug → Result Act Refusal
return_checks founding_vendor standing known caller = do
  held_by_keeper standing known caller
  Ok (Returned (name_of founding_vendor standing.number))

-- 15, for Reserve: no number of the span has an owner; the refusal names the least that has one
abbrev pub none_owned : VendorId → VendorId → Option ProductId → Result Passed Refusal
none_owned founding_vendor vid None = Ok tt
none_owned founding_vendor vid (Some pid) = Err (RangeOwned (name_of founding_vendor (number vid pid)))

-- Reserve. Refusals: 2, 34, 16, 15
abbrev pub reserve_checks : List Slug → VendorId → Bool → Bool → Option ProductId → Slug → VendorId → Span → Result Act Refusal
reserve_checks curators founding_vendor vendor_there meets_fixed least_owned caller vid span = do
  by_curator curators caller
  check vendor_there NoVendor
  check (not meets_fixed) RangeFixed
  none_owned founding_vendor vid least_owned
  Ok (Reserved (span_name_of founding_vendor vid span))

-- Release. Refusals: 2, 34, 16, 17
abbrev pub release_checks : List Slug → VendorId → Bool → Bool → Bool → Slug → VendorId → Span → Result Act Refusal
release_checks curators founding_vendor vendor_there meets_fixed all_reserved caller vid span = do
  by_curator curators caller
  check vendor_there NoVendor
  check (not meets_fixed) RangeFixed
  check all_reserved RangeNotReserved
  Ok (Released (span_name_of founding_vendor vid span))

-- Import. Refusals: 2, 4, 34, 19
abbrev pub import_checks : List Slug → Option Org → Bool → List ItemClass → Slug → VendorId → Slug → List Item → Result Act Refusal
import_checks curators known vendor_there classes caller vid org items = do
  by_curator curators caller
  known ← present known NoOrg
  check vendor_there NoVendor
  check (nat_le (length items) most_items) ImportTooLong
  Ok (Imported vid org (fresh_of classes items) (tally_of classes))

-- AddVendor. Refusals: 2, 33, 18
abbrev pub add_vendor_checks : List Slug → Bool → ℕ → Slug → VendorId → Title → Result Act Refusal
add_vendor_checks curators vendor_there vendors caller vid name = do
  by_curator curators caller
  check (not vendor_there) VendorTaken
  check (nat_lt vendors most_vendors) Full
  Ok (VendorAdded vid name)

-- AddLicence. Refusals: 2, 35, 18
abbrev pub add_licence_checks : List Slug → Bool → ℕ → Slug → Licence → Result Act Refusal
add_licence_checks curators allowed licences caller licence = do
  by_curator curators caller
  check (not allowed) LicenceTaken
  check (nat_lt licences most_licences) Full
  Ok (LicenceAdded licence)

-- HandOver. Refusals: 4, 3
abbrev pub hand_over_checks : List Slug → Option Org → Slug → Slug → Result Act Refusal
hand_over_checks curators known caller keeper = do
  org ← present known NoOrg
  by_keeper_or_curator curators org caller
  Ok (HandedOver (record org { keeper = keeper }))

-- Correct. Refusals: 2, 11, 13; 11 if the number has no owner
abbrev pub correct_checks : List Slug → VendorId → Standing → Bool → Slug → Card → Result Act Refusal
correct_checks curators founding_vendor standing allowed caller card = do
  by_curator curators caller
  check (is_some standing.owner) NumberNotHeld
  check allowed LicenceUnknown
  Ok (CardCorrected (name_of founding_vendor standing.number) card)

-- CorrectOrg. Refusals: 2, 4
abbrev pub correct_org_checks : List Slug → Option Org → Slug → Title → Link → Result Act Refusal
correct_org_checks curators known caller title site = do
  by_curator curators caller
  org ← present known NoOrg
  Ok (OrgCorrected (record org { title = title; site = site }))

-- Revoke. Refusals: 2, 11
abbrev pub revoke_checks : List Slug → VendorId → Standing → Slug → Result Act Refusal
revoke_checks curators founding_vendor standing caller = do
  by_curator curators caller
  check standing.held NumberNotHeld
  Ok (Revoked (name_of founding_vendor standing.number))
