-- The report on the owners of numbers.
use Rattle.std.specs.Prelude.{◌≡◌, ℕ, List, [], ◌∷◌, ◌++◌, codes, map}
use Rattle.std.specs.Fmt.{decimal}
use Rattle.usbnum_core.specs.declared.number.Number.{Number}
use Rattle.registry_rules.specs.Texts.{AreSorted}
use Rattle.registry_rules.specs.declared.record.Entry.{Entry}
use Rattle.registry_reports.specs.Columns.{left, right}
use Rattle.registry_reports.specs.Tallies.{owner_slug, tally_for}
use Rattle.registry_reports.specs.declared.tallies.Tally.{Tally}

-- the slug and the counts of its held and returned numbers
unfoldable pub holder_line : List ℕ → Tally → List ℕ
holder_line slug tally = left 32 slug ++ right 6 (decimal tally.held) ++ right 6 (decimal tally.returned) ++ codes "\n"

abbrev pub tally_lines : List (List ℕ × Tally) → List ℕ
tally_lines [] = []
tally_lines (entry ∷ entries) = holder_line entry.0 entry.1 ++ tally_lines entries

abbrev pub holder_lines : List (Number × Entry) → List (List ℕ) → List ℕ
holder_lines numbers [] = []
holder_lines numbers (slug ∷ slugs) = holder_line slug (tally_for numbers slug) ++ holder_lines numbers slugs

-- a line for each organisation that owns a number, in the order of their slugs
pub record IsHolders (numbers : List (Number × Entry)) (text : List ℕ) : Type 0 where
  pub slugs : List (List ℕ)
  pub order : AreSorted (map owner_slug numbers) slugs
  pub lines : text ≡ holder_lines numbers slugs
