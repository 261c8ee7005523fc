use Rattle.registry_laws.proofs.MachineLemmas as machines
use Rattle.registry_laws.proofs.begins_with_appended.Goals as goal

pub returns : goal.returns
returns c = machines.begins_with_appended
