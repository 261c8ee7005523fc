use Rattle.std.proofs.Common.{◌≡◌, take}
use Rattle.std.specs.String.{string_bytes}
use Rattle.registry_reports.specs.Organisations.{org_lines}
use Rattle.registry_reports.proofs.orgs.organisations.Given as goal

abbrev pub invariant-loop-org : goal.invariant-loop-org
invariant-loop-org l = string_bytes l.text ≡ org_lines (take l.org-index l.orgs)
