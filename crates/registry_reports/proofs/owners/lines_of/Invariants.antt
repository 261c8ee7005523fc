use Rattle.std.proofs.Common.{◌≡◌, ◌++◌}
use Rattle.std.specs.String.{string_bytes}
use Rattle.registry_reports.specs.Holders.{tally_lines}
use Rattle.registry_reports.proofs.owners.lines_of.Given as goal

-- the lines so far and the remaining ones
abbrev pub invariant-loop-slug : goal.invariant-loop-slug
invariant-loop-slug l = string_bytes l.text ++ tally_lines l.slug-iterator ≡ tally_lines l.tallies.entries
