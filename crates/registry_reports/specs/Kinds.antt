-- The kinds of reports, and their names.
use Rattle.std.specs.Prelude.{ℕ, List, codes, Option, Some, None, if◌then◌else◌}
use Rattle.std.specs.Str.{bytes_eq}
use Rattle.registry_reports.specs.declared.kinds.ReportKind.{ReportKind}
use Rattle.registry_reports.specs.declared.kinds.ReportKind.TheVariants.{Census, Holders, Petitions, Numbers, Organisations}

-- the kind of report with this name
unfoldable pub report_named : List ℕ → Option ReportKind
report_named name =
    if bytes_eq name (codes "census") then Some Census
    else (if bytes_eq name (codes "holders") then Some Holders
    else (if bytes_eq name (codes "petitions") then Some Petitions
    else (if bytes_eq name (codes "numbers") then Some Numbers else (if bytes_eq name (codes "organisations") then Some Organisations else None))))
