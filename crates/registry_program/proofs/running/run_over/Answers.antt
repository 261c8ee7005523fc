use Rattle.std.proofs.Common.{inl, inr, refl}
use Rattle.registry_arguments.specs.Commands.{texts}
use Rattle.registry_program.proofs.StatusLemmas.{is_status}
use Rattle.registry_program.proofs.running.run_over.Goals as goal

pub returns-in-Ok-clause-runs : goal.returns-in-Ok-clause-runs
returns-in-Ok-clause-runs g c = inl (texts c.in-Ok.asked.command, c.in-Ok.ensures.taken, c.in-Ok.ensures.ok, rw c.in-Ok.ensures.verbose c.obey.ensures)

pub returns-in-Ok-clause-status : goal.returns-in-Ok-clause-status
returns-in-Ok-clause-status g c = is_status c.obey.result

pub returns-in-Err-clause-runs : goal.returns-in-Err-clause-runs
returns-in-Err-clause-runs g c = inr (c.in-Err.usage, c.in-Err.ensures.only, c.in-Err.ensures.why, refl, refl, c.answer.ensures)

pub returns-in-Err-clause-status : goal.returns-in-Err-clause-status
returns-in-Err-clause-status g c = is_status c.answer.result
