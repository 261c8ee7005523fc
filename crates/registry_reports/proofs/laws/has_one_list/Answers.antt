use Rattle.registry_reports.proofs.UniqueLemmas.{one_list}
use Rattle.registry_reports.proofs.laws.has_one_list.Goals as goal

pub returns : goal.returns
returns c = one_list
