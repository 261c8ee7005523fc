-- The report on the organisations.
use Rattle.std.specs.Prelude.{ℕ, List, [], ◌∷◌, ◌++◌, codes}
use Rattle.registry_rules.specs.declared.record.Org.{Org}
use Rattle.registry_reports.specs.Columns.{left}

-- the slug, the keeper and the title
abbrev pub org_line : Org → List ℕ
org_line org = left 32 org.slug ++ codes "  " ++ left 32 org.keeper ++ codes "  " ++ org.title ++ codes "\n"

-- a line for each organisation
abbrev pub org_lines : List Org → List ℕ
org_lines [] = []
org_lines (org ∷ orgs) = org_line org ++ org_lines orgs
