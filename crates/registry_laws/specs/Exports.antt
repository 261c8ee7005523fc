-- Exported lists of vendors and numbers, which are read again.
use Rattle.std.specs.Prelude.{◌≡◌, ◌⊎◌, List, Option, Result, Ok, Err, All}
use Rattle.usbnum_core.specs.Number.{IsId}
use Rattle.usbnum_core.specs.Text.{IsTitle}
use Rattle.usbnum_core.specs.declared.number.Number.{Number}
use Rattle.usbids_text.specs.Documents.{IsTextOf}
use Rattle.usbids_text.specs.Entries.{TopEntry}
use Rattle.usbids_text.specs.Moments.{Moment}
use Rattle.usbids_text.specs.Reading.{ReadsAs}
use Rattle.usbids_text.specs.Writing.{written}
use Rattle.usbids_text.specs.declared.fault.ReadFault.{ReadFault}
use Rattle.usbids_text.specs.declared.fault.ReadFault.TheVariants.{NoMemory}
use Rattle.registry_rules.specs.declared.record.Entry.{Entry}
use Rattle.registry_rules.specs.declared.record.Vendor.{Vendor}
use Rattle.registry_reports.specs.Listing.{list_of}

-- the invariants of a vendor
pub record IsListedVendor (vendor : Vendor) : Type 0 where
  pub vid : IsId vendor.vid
  pub name : IsTitle vendor.name

-- the invariants of a number with its entry
pub record IsListedEntry (pair : Number × Entry) : Type 0 where
  pub pid : IsId pair.0.pid
  pub title : IsTitle pair.1.card.title

-- the text written for the list is the text of the list
abbrev pub ReadsAsItself : Type 0
ReadsAsItself = (vendors : List Vendor) (numbers : List (Number × Entry)) (stamp : Option Moment) → All IsListedVendor vendors → All IsListedEntry numbers
    → IsTextOf (written (list_of vendors numbers) stamp) (list_of vendors numbers)

-- a reader of the text returns the list, or runs out of memory
abbrev pub IsReadBack : Type 0
IsReadBack = (vendors : List Vendor) (numbers : List (Number × Entry)) (stamp : Option Moment) (read : Result (List TopEntry) ReadFault) → All IsListedVendor vendors → All IsListedEntry numbers
    → ReadsAs (written (list_of vendors numbers) stamp) read → (read ≡ Ok (list_of vendors numbers)) ⊎ (read ≡ Err NoMemory)
