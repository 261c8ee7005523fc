-- The counts of each organisation's held and returned numbers.
use Rattle.std.specs.Prelude.{ℕ, ◌+◌, List, Option, Some, None, unwrap_or, map, Bool, not, cond, ◌&&◌, if◌then◌else◌}
use Rattle.std.specs.List.{count_by, list_any}
use Rattle.std.specs.Str.{bytes_eq}
use Rattle.std.specs.Ordering.{nat_cmp}
use Rattle.std.specs.Cmp.Lexicographic.{slice_cmp}
use Rattle.std.specs.BTreeMap.{BTreeMap, get}
use Rattle.usbnum_core.specs.declared.number.Number.{Number}
use Rattle.registry_rules.specs.declared.record.Entry.{Entry}
use Rattle.registry_reports.specs.declared.tallies.Tally.{Tally}

abbrev pub owner_slug : Number × Entry → List ℕ
owner_slug pair = pair.1.org

abbrev pub holds_for : List ℕ → Number × Entry → Bool
holds_for slug pair = bytes_eq slug pair.1.org && pair.1.held

abbrev pub returned_by : List ℕ → Number × Entry → Bool
returned_by slug pair = bytes_eq slug pair.1.org && not pair.1.held

-- the counts of the numbers that the organisation holds and that it returned
abbrev pub tally_for : List (Number × Entry) → List ℕ → Tally
tally_for numbers slug = record { held = count_by (holds_for slug) numbers; returned = count_by (returned_by slug) numbers }

-- the tally of an organisation, if it owns one of the numbers
abbrev pub tallied : List (Number × Entry) → List ℕ → Option Tally
tallied numbers slug = if list_any (bytes_eq slug) (map owner_slug numbers) then Some (tally_for numbers slug) else None

-- the tally so far
abbrev pub tally_at : BTreeMap (List ℕ) Tally → List ℕ → Tally
tally_at tallies slug = unwrap_or (get (slice_cmp nat_cmp) tallies slug) (record { held = 0; returned = 0 })

-- the tally with one more number
abbrev pub with_number : Tally → Bool → Tally
with_number tally held = record { held = tally.held + cond held 1 0; returned = tally.returned + cond (not held) 1 0 }
