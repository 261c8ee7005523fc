-- The import of a vendor's devices from a list.
use Rattle.std.specs.Prelude.{◌≡◌, ◌≤◌, ℕ, List, [], length, map, All, Option, Some, None, true, is_some, nat_eq, if◌then◌else◌}
use Rattle.std.specs.Option.{option_map, option_or}
use Rattle.std.specs.List.{list_any}
use Rattle.std.specs.List.Sorted.{IsStrictlyIncreasing}
use Rattle.std.specs.Str.{bytes_eq}
use Rattle.usbnum_core.specs.Number.{IsId}
use Rattle.usbnum_core.specs.Text.{IsTitle}
use Rattle.usbnum_core.specs.declared.number.Number.{Number}
use Rattle.usbids_text.specs.Entries.{TopEntry}
use Rattle.usbids_text.specs.Finding.{find_mid}
use Rattle.registry_rules.specs.Changes.{entry_imported}
use Rattle.registry_rules.specs.History.{History, with_deed}
use Rattle.registry_rules.specs.Limits.{most_items}
use Rattle.registry_rules.specs.Number.{number}
use Rattle.registry_rules.specs.Query.{org_of, vendor_of, has_vendor, vendor_meant, is_free, deed_under}
use Rattle.registry_rules.specs.Records.{entry_of}
use Rattle.registry_rules.specs.Run.{after_one}
use Rattle.registry_rules.specs.Verdict.{verdict}
use Rattle.registry_rules.specs.declared.deed.Deed.{Deed}
use Rattle.registry_rules.specs.declared.order.Request.{Request}
use Rattle.registry_rules.specs.declared.record.Entry.{Entry}
use Rattle.registry_rules.specs.declared.record.Vendor.{Vendor}
use Rattle.registry_rules.specs.declared.verdict.Verdict.TheVariants.{New}
use Rattle.registry_reports.specs.History.{IsVendorOfDevices, IsListing}
use Rattle.registry_reports.specs.Listing.{list_of}
use Rattle.registry_wire.specs.Import.{is_of_vendor, items_of, import_of}
use Rattle.registry_laws.specs.Exports.{IsListedEntry}

-- the caller may import this number of items for the organisation under the vendor, and has not used the key
pub record MayImport (h : History) (caller key org : List ℕ) (vid : ℕ) (items : ℕ) : Type 0 where
  pub curator : list_any (bytes_eq caller) h.founding.curators ≡ true
  pub known : is_some (org_of h org) ≡ true
  pub vendor : has_vendor h vid ≡ true
  pub short : items ≤ most_items
  pub unused : deed_under h caller key ≡ None

-- each code under the vendor in the list is a product ID, and its name is a title
abbrev pub AreTitled : ℕ → List TopEntry → Type 0
AreTitled vid doc = (pid : ℕ) (name : List ℕ) → find_mid vid pid doc ≡ Some name → IsId pid × IsTitle name

-- none of these numbers is owned or reserved
abbrev pub AreFree : History → ℕ → List TopEntry → Type 0
AreFree h vid doc = (pid : ℕ) → is_some (find_mid vid pid doc) ≡ true → is_free h (number vid pid) ≡ true

-- the entry that the list gives a number: held by the organisation, with its name as title, without terms
abbrev pub entry_listed : List ℕ → ℕ → List TopEntry → Number → Option Entry
entry_listed org vid doc n = if nat_eq vid n.vid then option_map (entry_imported org) (find_mid vid n.pid doc) else None

-- The request leads to a new deed. After it each number has its entry from the list, or else its earlier entry, and each vendor is
-- as before; which numbers are reserved is not said.
pub record IsTakenOver (h : History) (request : Request) (org : List ℕ) (vid : ℕ) (doc : List TopEntry) : Type 0 where
  pub deed : Deed
  pub new : verdict h request ≡ New deed
  pub entries : (n : Number) → entry_of (with_deed h deed) n ≡ option_or (entry_listed org vid doc n) (entry_of h n)
  pub vendors : (v : ℕ) → vendor_of (with_deed h deed) v ≡ vendor_of h v

-- the import takes all of the vendor's devices over, if none of their numbers is owned or reserved
abbrev pub TakesOver : Type 0
TakesOver = (h : History) (caller key org : List ℕ) (named : Option ℕ) (doc : List TopEntry)
    → MayImport h caller key org (vendor_meant h named) (length (items_of (vendor_meant h named) doc)) → AreTitled (vendor_meant h named) doc → AreFree h (vendor_meant h named) doc
    → IsTakenOver h (import_of caller key org h.founding.vendor named doc) org (vendor_meant h named) doc

-- the top without its devices, if it is the vendor with this ID
abbrev pub without_devices : ℕ → TopEntry → TopEntry
without_devices vid top = if is_of_vendor vid top then record top { mids = [] } else top

-- the list without the devices of the vendor
abbrev pub without : ℕ → List TopEntry → List TopEntry
without vid doc = map (without_devices vid) doc

-- only vendors, which ascend, with devices that ascend, as in an export
pub record IsInOrder (doc : List TopEntry) : Type 0 where
  pub ascend : IsStrictlyIncreasing (map (λ top. top.code) doc)
  pub each : All IsVendorOfDevices doc

-- a registry that lists everything except a vendor's devices, none of them owned or reserved there, has the whole list
-- after their import
abbrev pub CompletesList : Type 0
CompletesList = (there : History) (caller key org : List ℕ) (named : Option ℕ) (doc : List TopEntry)
    → IsInOrder doc → AreTitled (vendor_meant there named) doc → IsListing there (without (vendor_meant there named) doc)
    → MayImport there caller key org (vendor_meant there named) (length (items_of (vendor_meant there named) doc)) → AreFree there (vendor_meant there named) doc
    → IsListing (after_one there (import_of caller key org there.founding.vendor named doc)) doc

-- the same for a list that was exported from another history
abbrev pub GivesSameList : Type 0
GivesSameList = (h there : History) (vendors : List Vendor) (numbers : List (Number × Entry)) (caller key org : List ℕ) (named : Option ℕ)
    → All IsListedEntry numbers → IsListing h (list_of vendors numbers) → IsListing there (without (vendor_meant there named) (list_of vendors numbers))
    → MayImport there caller key org (vendor_meant there named) (length (items_of (vendor_meant there named) (list_of vendors numbers)))
    → AreFree there (vendor_meant there named) (list_of vendors numbers)
    → IsListing (after_one there (import_of caller key org there.founding.vendor named (list_of vendors numbers))) (list_of vendors numbers)
