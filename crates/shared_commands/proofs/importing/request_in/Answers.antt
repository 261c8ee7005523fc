use Rattle.std.proofs.Common.{inl, inr}
use Rattle.std.proofs.lemmas.Result.{IfOk-weaker}
use Rattle.registry_commands.proofs.FailureLemmas.{if_err}
use Rattle.shared_commands.proofs.importing.request_in.Goals as goal

pub returns-in-Ok-clause-ok : goal.returns-in-Ok-clause-ok
returns-in-Ok-clause-ok g c = IfOk-weaker c.request_for.result _ _ (λ request it. (c.in-Ok.list, c.in-Ok.is, it.0, it.1)) c.request_for.ensures.ok

pub returns-in-Ok-clause-err : goal.returns-in-Ok-clause-err
returns-in-Ok-clause-err g c = if_err _ _ c.request_for.result (λ status it. inl it) c.request_for.ensures.err

pub returns-in-Err-clause-err : goal.returns-in-Err-clause-err
returns-in-Err-clause-err g c = inr (c.in-Err.fault, c.in-Err.is, c.put_fault.ensures)
