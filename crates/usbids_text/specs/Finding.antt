-- The first mid with this code under a vendor with this ID.
use Rattle.std.specs.Prelude.{ℕ, ◌==◌, List, [], ◌∷◌, Bool, false, Option, Some, None, if◌then◌else◌}
use Rattle.std.specs.Option.{option_or}
use Rattle.usbids_text.specs.declared.kind.Kind.{Kind}
use Rattle.usbids_text.specs.declared.kind.Kind.TheVariants.{Vendor, Tagged}
use Rattle.usbids_text.specs.Entries.{MidEntry, TopEntry}

-- the name of the first mid with this code
abbrev pub first_mid : ℕ → List MidEntry → Option (List ℕ)
first_mid code [] = None
first_mid code (m ∷ mids) = if m.code == code then Some m.name else first_mid code mids

abbrev pub has_number : ℕ → Kind → ℕ → Bool
has_number vendor Vendor code = code == vendor
has_number vendor (Tagged tag) code = false

-- the top is a vendor with this ID
abbrev pub vendor_has : ℕ → TopEntry → Bool
vendor_has vendor t = has_number vendor t.kind t.code

abbrev pub find_in : ℕ → ℕ → TopEntry → Option (List ℕ)
find_in vendor code t = if vendor_has vendor t then first_mid code t.mids else None

-- the first match in a document, which may have several vendors with the same ID
abbrev pub find_mid : ℕ → ℕ → List TopEntry → Option (List ℕ)
find_mid vendor code [] = None
find_mid vendor code (t ∷ tops) = option_or (find_in vendor code t) (find_mid vendor code tops)
