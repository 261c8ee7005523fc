use Rattle.std.proofs.Common.{rules}
use Rattle.registry_tables.proofs.ReadLemmas.{rows_fail}
use Rattle.registry_tables.proofs.FirstLicencesLemmas.{first_tell}
use Rattle.registry_tables.proofs.founded_licences.read_first_licences.Goals as goal

pub returns : goal.returns
returns g c = record { reads = first_tell c.args.licences.now _ (rw c.deref.ensures.value at c.licences_left.ensures.left) c.licences_left.ensures.kind c.in_ok-rows.ensures.reads }

pub returns-in_err-rows : goal.returns-in_err-rows
returns-in_err-rows g c = record { reads = rows_fail (search rules) c.in_err-rows.ensures.reads }
