use Rattle.std.proofs.Common.{refl}
use Rattle.registry_rules.specs.History.{founded}
use Rattle.registry_store.specs.Promise.{connection_of}
use Rattle.registry_reopening.proofs.RunThroughLemmas.{always_clean}
use Rattle.registry_reopening.proofs.resuming.run_in_memory.Goals as goal

pub returns-in-Ok-run_through-clause-ended : goal.returns-in-Ok-run_through-clause-ended
returns-in-Ok-run_through-clause-ended c =
    let stands = c.in-Ok-found.ensures.represents (always_clean (λ _. refl) (connection_of c.in-Ok-found.first).store) in
    c.in-Ok-run_through.ensures.ended (founded c.args.founding.now) stands (always_clean (λ _. refl) (connection_of c.in-Ok-run_through.end.1).store)

pub returns-in-Ok-run_through-clause-clean : goal.returns-in-Ok-run_through-clause-clean
returns-in-Ok-run_through-clause-clean c = always_clean (λ _. refl) (connection_of c.in-Ok-run_through.end.1).store
