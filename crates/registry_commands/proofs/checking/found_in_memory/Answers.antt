use Rattle.registry_commands.proofs.EndLemmas.{memory_is_clean}
use Rattle.registry_commands.proofs.checking.found_in_memory.Goals as goal

pub returns-in-Ok-found-clause-ok : goal.returns-in-Ok-found-clause-ok
returns-in-Ok-found-clause-ok c = c.in-Ok-found.ensures.represents (memory_is_clean c.in-Ok-found.registry)
