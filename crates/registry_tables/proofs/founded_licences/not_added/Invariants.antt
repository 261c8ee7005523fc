use Rattle.std.proofs.Common.{◌≡◌, ◌++◌, filter, not, drop}
use Rattle.registry_tables.specs.FirstLicences.{was_added}
use Rattle.registry_tables.proofs.founded_licences.not_added.Given as goal

abbrev pub invariant-loop-licence : goal.invariant-loop-licence
invariant-loop-licence l = l.left.items ++ filter (λ licence. not (was_added l.rows licence)) (drop l.licence-index l.licences) ≡ filter (λ licence. not (was_added l.rows licence)) l.licences
