-- The texts of replies to accepted requests, and the numbers, names and texts of refusals.
use Rattle.std.specs.Prelude.{ℕ, List, [], ◌++◌, codes, Option, Some, None, Bool, if◌then◌else◌}
use Rattle.std.specs.Fmt.{decimal}
use Rattle.usbnum_core.specs.Number.{digits_of}
use Rattle.registry_rules.specs.Values.{VendorId}
use Rattle.registry_rules.specs.declared.deed.Act.{Act}
use Rattle.registry_rules.specs.declared.deed.Act.TheVariants.{Enrolled, OrgAmended, Asked, Granted, Declined, Withdrawn, CardAmended, Returned, Reserved, Released, Imported, VendorAdded, LicenceAdded, HandedOver, CardCorrected, OrgCorrected, Revoked}
use Rattle.registry_rules.specs.declared.item.Tally.{Tally}
use Rattle.registry_rules.specs.declared.name.NumberName.{NumberName}
use Rattle.registry_rules.specs.declared.name.SpanName.{SpanName}
use Rattle.registry_rules.specs.declared.refusal.Refusal.{Refusal}
use Rattle.registry_rules.specs.declared.refusal.Refusal.TheVariants.{KeyReused, NotCurator, NotKeeper, NoOrg, OrgTaken, NoPetition, PetitionClosed, NumberReserved, NumberOwned, NumberHeld, NumberNotHeld, NoneFree, LicenceUnknown, TooManyOpen, RangeOwned, RangeFixed, RangeNotReserved, Full, ImportTooLong, VendorTaken, NoVendor, LicenceTaken}

-- the vendor in a name: four digits and a colon if it is foreign, otherwise nothing
abbrev pub vendor_text : Bool → VendorId → List ℕ
vendor_text foreign vid = if foreign then digits_of vid ++ codes ":" else []

-- the name of a number, for example `0011`, or `cafe:0011`
abbrev pub number_text : NumberName → List ℕ
number_text name = vendor_text name.foreign name.number.vid ++ digits_of name.number.pid

-- the name of a span, for example `2000-20ff`, or `cafe:2000-20ff`
abbrev pub span_text : SpanName → List ℕ
span_text name = vendor_text name.foreign name.vid ++ digits_of name.span.first ++ codes "-" ++ digits_of name.span.last

-- the text of a tally, for example `fresh 1, owned 0, reserved 0, doubled 0, untitled 0, zero 0`
abbrev pub tally_text : Tally → List ℕ
tally_text tally =
    codes "fresh " ++ decimal tally.fresh ++ codes ", owned " ++ decimal tally.owned ++ codes ", reserved " ++ decimal tally.reserved
    ++ codes ", doubled " ++ decimal tally.doubled ++ codes ", untitled " ++ decimal tally.untitled ++ codes ", zero " ++ decimal tally.zero

-- the reply to an accepted request; the registry keeps it for repeats of the request
abbrev pub act_text : Act → List ℕ
act_text (Enrolled org) = codes "enrolled " ++ org.slug
act_text (OrgAmended org) = codes "amended organisation " ++ org.slug
act_text (Asked id petition) = codes "petition " ++ decimal id
act_text (Granted id petition name) = codes "granted " ++ number_text name ++ codes " to " ++ petition.org ++ codes " by petition " ++ decimal id
act_text (Declined id petition reason) = codes "declined petition " ++ decimal id
act_text (Withdrawn id petition) = codes "withdrawn petition " ++ decimal id
act_text (CardAmended name card) = codes "amended " ++ number_text name
act_text (Returned name) = codes "returned " ++ number_text name
act_text (Reserved name) = codes "reserved " ++ span_text name
act_text (Released name) = codes "released " ++ span_text name
act_text (Imported vid org fresh tally) = codes "imported " ++ tally_text tally
act_text (VendorAdded vendor name) = codes "added vendor " ++ digits_of vendor
act_text (LicenceAdded licence) = codes "added licence " ++ licence
act_text (HandedOver org) = codes "handed " ++ org.slug ++ codes " over to " ++ org.keeper
act_text (CardCorrected name card) = codes "corrected " ++ number_text name
act_text (OrgCorrected org) = codes "corrected organisation " ++ org.slug
act_text (Revoked name) = codes "revoked " ++ number_text name

-- the number of a refusal. Other crates use 20 to 32, for bad input and for faults (docs/requests.md).
abbrev pub refusal_number : Refusal → ℕ
refusal_number KeyReused = 1
refusal_number NotCurator = 2
refusal_number NotKeeper = 3
refusal_number NoOrg = 4
refusal_number OrgTaken = 5
refusal_number NoPetition = 6
refusal_number PetitionClosed = 7
refusal_number NumberReserved = 8
refusal_number (NumberOwned owner) = 9
refusal_number NumberHeld = 10
refusal_number NumberNotHeld = 11
refusal_number NoneFree = 12
refusal_number LicenceUnknown = 13
refusal_number TooManyOpen = 14
refusal_number (RangeOwned name) = 15
refusal_number RangeFixed = 16
refusal_number RangeNotReserved = 17
refusal_number Full = 18
refusal_number ImportTooLong = 19
refusal_number VendorTaken = 33
refusal_number NoVendor = 34
refusal_number LicenceTaken = 35

-- the name of a refusal
abbrev pub refusal_name : Refusal → List ℕ
refusal_name KeyReused = codes "KeyReused"
refusal_name NotCurator = codes "NotCurator"
refusal_name NotKeeper = codes "NotKeeper"
refusal_name NoOrg = codes "NoOrg"
refusal_name OrgTaken = codes "OrgTaken"
refusal_name NoPetition = codes "NoPetition"
refusal_name PetitionClosed = codes "PetitionClosed"
refusal_name NumberReserved = codes "NumberReserved"
refusal_name (NumberOwned owner) = codes "NumberOwned"
refusal_name NumberHeld = codes "NumberHeld"
refusal_name NumberNotHeld = codes "NumberNotHeld"
refusal_name NoneFree = codes "NoneFree"
refusal_name LicenceUnknown = codes "LicenceUnknown"
refusal_name TooManyOpen = codes "TooManyOpen"
refusal_name (RangeOwned name) = codes "RangeOwned"
refusal_name RangeFixed = codes "RangeFixed"
refusal_name RangeNotReserved = codes "RangeNotReserved"
refusal_name Full = codes "Full"
refusal_name ImportTooLong = codes "ImportTooLong"
refusal_name VendorTaken = codes "VendorTaken"
refusal_name NoVendor = codes "NoVendor"
refusal_name LicenceTaken = codes "LicenceTaken"

-- the owner of the number, or the least owned number of the span
abbrev pub refusal_detail : Refusal → Option (List ℕ)
refusal_detail (NumberOwned owner) = Some owner
refusal_detail (RangeOwned name) = Some (number_text name)
refusal_detail _ = None

-- the text of a refusal, for example `NumberReserved`, or `NumberOwned: acme`
abbrev pub name_and_detail : List ℕ → Option (List ℕ) → List ℕ
name_and_detail name None = name
name_and_detail name (Some detail) = name ++ codes ": " ++ detail

abbrev pub refusal_text : Refusal → List ℕ
refusal_text refusal = name_and_detail (refusal_name refusal) (refusal_detail refusal)
