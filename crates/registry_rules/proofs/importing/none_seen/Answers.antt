-- All flags are false.
use Rattle.std.proofs.Common.{Bool, Global, Vec}
use Rattle.std.proofs.lemmas.Result.{IfOk-weaker}
use Rattle.registry_rules.specs.declared.importing.TheConstants.{CODES}
use Rattle.registry_rules.proofs.ItemLemmas.{none_flagged}
use Rattle.registry_rules.proofs.importing.none_seen.Goals as goal

pub returns-clause-counted : goal.returns-clause-counted
returns-clause-counted c = IfOk-weaker _ _ _ (λ (seen : Vec Bool Global) all. (none_flagged CODES seen.items (all (λ y same. same))).0) c.vec.ensures.items_if_clones_equal

pub returns-clause-none : goal.returns-clause-none
returns-clause-none c = IfOk-weaker _ _ _ (λ (seen : Vec Bool Global) all. (none_flagged CODES seen.items (all (λ y same. same))).1) c.vec.ensures.items_if_clones_equal
