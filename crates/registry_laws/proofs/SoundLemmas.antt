-- The list of vendors and numbers is a sound document, and is read back.
use Rattle.std.proofs.Common.{◌≡◌, ℕ, true, List, [], ◌∷◌, ◌++◌, Ok, Err, refl, ap, ◌∙◌, inl, inr, arith}
use Rattle.std.specs.Prelude.{All}
use Rattle.std.specs.List.{list_all}
use Rattle.std.proofs.lemmas.Bool.{cases_Bool}
use Rattle.std.proofs.lemmas.List.Elements.{All-head, All-tail}
use Rattle.std.proofs.lemmas.List.Folds.{list_all-append}
use Rattle.usbnum_core.specs.Number.{IsId}
use Rattle.usbnum_core.specs.declared.number.Number.{Number}
use Rattle.usbids_text.specs.Cut.{lines}
use Rattle.usbids_text.specs.Entries.{TopEntry, mid_line, top_line, leaves_lines, mids_lines, tops_lines, is_line, has_four, is_sound_top, IsSound}
use Rattle.usbids_text.specs.Words.{is_code}
use Rattle.usbids_text.specs.Writing.{written}
use Rattle.usbids_text.specs.declared.fault.ReadFault.TheVariants.{Line, NoMemory}
use Rattle.usbids_text.specs.declared.kind.Kind.TheVariants.{Vendor as OfVendor}
use Rattle.usbids_text.specs.declared.kind.Depth.TheVariants.{Zero, One}
use Rattle.usbids_text.proofs.EntryLemmas.{make_entry, and_both}
use Rattle.usbids_text.proofs.UniqueLemmas.{one_spelt, not_both_at_once}
use Rattle.usbids_text.proofs.WrittenLemmas.{written_text_is_text}
use Rattle.registry_rules.specs.declared.record.Entry.{Entry}
use Rattle.registry_rules.specs.declared.record.Vendor.{Vendor}
use Rattle.registry_reports.specs.Listing.{device_of, devices_of, is_held_of, top_of, list_of}
use Rattle.registry_reports.proofs.TitleLemmas.{title_name}
use Rattle.registry_laws.specs.Exports.{IsListedVendor, IsListedEntry, ReadsAsItself, IsReadBack}

four : (n : ℕ) → IsId n → is_code n 4 ≡ true
four n is = let w = is.within in grind arith

device_line : (pair : Number × Entry) → IsListedEntry pair → is_line (mid_line (device_of pair)) ≡ true
device_line pair is = make_entry One pair.0.pid 4 pair.1.card.title (four pair.0.pid is.pid) (title_name pair.1.card.title is.title) refl

devices_lines : (vid : ℕ) (pairs : List (Number × Entry)) → All IsListedEntry pairs → list_all is_line (mids_lines (devices_of vid pairs)) ≡ true
unfolding mids_lines leaves_lines
devices_lines vid [] all = refl
devices_lines vid (pair ∷ pairs) all = elim (cases_Bool (is_held_of vid pair)) [
  | inl e ↦ rw e (and_both (is_line (mid_line (device_of pair))) (list_all is_line (mids_lines (devices_of vid pairs))) (device_line pair (All-head IsListedEntry pair pairs all)) (devices_lines vid pairs (All-tail IsListedEntry pair pairs all)))
  | inr e ↦ rw e (devices_lines vid pairs (All-tail IsListedEntry pair pairs all))
]

devices_fours : (vid : ℕ) (pairs : List (Number × Entry)) → list_all has_four (devices_of vid pairs) ≡ true
devices_fours vid [] = refl
devices_fours vid (pair ∷ pairs) = elim (cases_Bool (is_held_of vid pair)) [
  | inl e ↦ rw e (devices_fours vid pairs)
  | inr e ↦ rw e (devices_fours vid pairs)
]

vendor_line : (numbers : List (Number × Entry)) (vendor : Vendor) → IsListedVendor vendor → is_line (top_line (top_of numbers vendor)) ≡ true
vendor_line numbers vendor is = make_entry (Zero OfVendor) vendor.vid 4 vendor.name (four vendor.vid is.vid) (title_name vendor.name is.name) refl

list_lines : (vendors : List Vendor) (numbers : List (Number × Entry)) → All IsListedVendor vendors → All IsListedEntry numbers → list_all is_line (tops_lines (list_of vendors numbers)) ≡ true
unfolding tops_lines
list_lines [] numbers all each = refl
list_lines (vendor ∷ vendors) numbers all each =
    and_both (is_line (top_line (top_of numbers vendor))) (list_all is_line (mids_lines (devices_of vendor.vid numbers) ++ tops_lines (list_of vendors numbers)))
    (vendor_line numbers vendor (All-head IsListedVendor vendor vendors all))
    (list_all-append is_line (mids_lines (devices_of vendor.vid numbers)) (tops_lines (list_of vendors numbers))
    ∙ and_both (list_all is_line (mids_lines (devices_of vendor.vid numbers))) (list_all is_line (tops_lines (list_of vendors numbers)))
    (devices_lines vendor.vid numbers each) (list_lines vendors numbers (All-tail IsListedVendor vendor vendors all) each))

list_fours : (vendors : List Vendor) (numbers : List (Number × Entry)) → list_all is_sound_top (list_of vendors numbers) ≡ true
list_fours [] numbers = refl
list_fours (vendor ∷ vendors) numbers = and_both (is_sound_top (top_of numbers vendor)) (list_all is_sound_top (list_of vendors numbers)) (devices_fours vendor.vid numbers) (list_fours vendors numbers)

pub list_sound : (vendors : List Vendor) (numbers : List (Number × Entry)) → All IsListedVendor vendors → All IsListedEntry numbers → IsSound (list_of vendors numbers)
list_sound vendors numbers all each = record { fours = list_fours vendors numbers; each = list_lines vendors numbers all each }

pub spelled : ReadsAsItself
spelled vendors numbers stamp all each = written_text_is_text (list_of vendors numbers) stamp (list_sound vendors numbers all each)

pub read_back : IsReadBack
read_back vendors numbers stamp (Ok doc) all each answers = inl (ap (λ (d : List TopEntry). Ok d) (one_spelt (lines (written (list_of vendors numbers) stamp)) doc (list_of vendors numbers) answers (spelled vendors numbers stamp all each)))
read_back vendors numbers stamp (Err NoMemory) all each answers = inr refl
read_back vendors numbers stamp (Err (Line f)) all each answers = absurd (not_both_at_once (lines (written (list_of vendors numbers) stamp)) (list_of vendors numbers) f.line f.why (spelled vendors numbers stamp all each) answers)
