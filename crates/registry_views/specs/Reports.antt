-- What a report shows of a history.
use Rattle.std.specs.Prelude.{◌≡◌, ℕ, List, map}
use Rattle.std.specs.List.{All}
use Rattle.usbnum_core.specs.Spans.{spans_have}
use Rattle.usbnum_core.specs.declared.number.Number.{Number}
use Rattle.usbnum_core.specs.declared.number.Span.{Span}
use Rattle.registry_rules.specs.Number.{number}
use Rattle.registry_rules.specs.History.{History}
use Rattle.registry_rules.specs.Query.{is_reserved}
use Rattle.registry_rules.specs.declared.record.Entry.{Entry}
use Rattle.registry_rules.specs.declared.record.Org.{Org}
use Rattle.registry_rules.specs.declared.record.Petition.{Petition}
use Rattle.registry_rules.specs.declared.record.Vendor.{Vendor}
use Rattle.registry_reports.specs.declared.kinds.ReportKind.{ReportKind}
use Rattle.registry_reports.specs.declared.kinds.ReportKind.TheVariants.{Census, Holders, Petitions, Numbers, Organisations}
use Rattle.registry_reports.specs.Census.{census_lines}
use Rattle.registry_reports.specs.Holders.{IsHolders}
use Rattle.registry_reports.specs.Petitions.{petition_lines}
use Rattle.registry_reports.specs.Numbers.{number_lines}
use Rattle.registry_reports.specs.Organisations.{org_lines}
use Rattle.registry_tables.specs.Lists.{IsNumberList, IsOrgList, IsPetitionList, IsVendorList}

-- the spans of the pair are the reserved numbers of its vendor
abbrev pub HasReserved : History → ℕ × List Span → Type 0
HasReserved h pair = (pid : ℕ) → spans_have pair.1 pid ≡ is_reserved h (number pair.0 pid)

-- the pairs are these vendors, in order, each with its reserved numbers
pub record AreReserved (h : History) (vendors : List Vendor) (pairs : List (ℕ × List Span)) : Type 0 where
  pub same : map (λ pair. pair.0) pairs ≡ map (λ vendor. vendor.vid) vendors
  pub each : All (HasReserved h) pairs

-- the text is the census of all vendors, their reserved numbers and all numbers with an owner
pub record IsCensus (h : History) (text : List ℕ) : Type 0 where
  pub vendors : List Vendor
  pub all_vendors : IsVendorList h vendors
  pub pairs : List (ℕ × List Span)
  pub reserved : AreReserved h vendors pairs
  pub numbers : List (Number × Entry)
  pub all_numbers : IsNumberList h numbers
  pub lines : text ≡ census_lines numbers pairs

-- the text is the report on the holders of all numbers with an owner
pub record IsHoldersReport (h : History) (text : List ℕ) : Type 0 where
  pub numbers : List (Number × Entry)
  pub all_numbers : IsNumberList h numbers
  pub holders : IsHolders numbers text

-- the text is the report on the open petitions
pub record IsPetitionsReport (h : History) (text : List ℕ) : Type 0 where
  pub petitions : List (ℕ × Petition)
  pub all_petitions : IsPetitionList h petitions
  pub lines : text ≡ petition_lines h.founding.vendor petitions

-- the text is the report on the reserved numbers of all vendors and all numbers with an owner
pub record IsNumbersReport (h : History) (text : List ℕ) : Type 0 where
  pub vendors : List Vendor
  pub all_vendors : IsVendorList h vendors
  pub pairs : List (ℕ × List Span)
  pub reserved : AreReserved h vendors pairs
  pub numbers : List (Number × Entry)
  pub all_numbers : IsNumberList h numbers
  pub lines : text ≡ number_lines numbers pairs

-- the text is the report on all organisations
pub record IsOrganisationsReport (h : History) (text : List ℕ) : Type 0 where
  pub orgs : List Org
  pub all_orgs : IsOrgList h orgs
  pub lines : text ≡ org_lines orgs

-- the text is the report of this kind
abbrev pub IsReport : ReportKind → History → List ℕ → Type 0
IsReport Census h text = IsCensus h text
IsReport Holders h text = IsHoldersReport h text
IsReport Petitions h text = IsPetitionsReport h text
IsReport Numbers h text = IsNumbersReport h text
IsReport Organisations h text = IsOrganisationsReport h text
