use Rattle.registry_commands.proofs.following.count_of.Goals as goal

pub returns-in-Ok : goal.returns-in-Ok
returns-in-Ok g c = λ h stands valid. (c.in-Ok.ensures.answered h stands valid).count

pub returns-in-Err : goal.returns-in-Err
returns-in-Err g c = λ h stands valid. let spent = c.in-Err.ensures.only_poisoned in absurd (cc (spent, stands.not_poisoned))
