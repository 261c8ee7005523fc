use Rattle.registry_tables.proofs.ReadLemmas.{makes_open, falls_short}
use Rattle.registry_store.proofs.attempt.judged_by_facts.Goals as goal

pub returns : goal.returns
returns g c = record { reads = makes_open (λ h legal known kept are. c.in-Ok.ensures h (known kept are)) c.in_ok-facts.ensures.reads }

pub returns-in_default : goal.returns-in_default
returns-in_default g c = record { reads = falls_short (λ never. absurd cc) c.in_ok-facts.ensures.reads }
