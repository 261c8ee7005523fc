use Rattle.registry_arguments.proofs.CommandValueLemmas.{a_subcommand, no_subcommand}
use Rattle.registry_arguments.proofs.command.asked_by.Goals as goal

pub returns-in-None : goal.returns-in-None
returns-in-None c = no_subcommand _ (rw c.in-None.is at c.subcommand.ensures.rows)

pub returns-in-Some : goal.returns-in-Some
returns-in-Some c = a_subcommand _ _ _ c.in-Some.name.now _ _ (rw c.in-Some.is at c.subcommand.ensures.name) (rw c.in-Some.is at c.subcommand.ensures.rows) c.named.ensures
