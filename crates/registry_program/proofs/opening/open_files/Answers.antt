use Rattle.std.proofs.Common.{inl, inr}
use Rattle.std.proofs.lemmas.Result.{IfErr-weaker}
use Rattle.registry_program.proofs.OpeningLemmas.{not_foreign}
use Rattle.registry_program.proofs.opening.open_files.Goals as goal

pub returns-in-Ok-clause-ok : goal.returns-in-Ok-clause-ok
returns-in-Ok-clause-ok g c = c.open_on.ensures.ok c.args.files c.in-Ok.ensures.ok

pub returns-in-Ok-clause-err : goal.returns-in-Ok-clause-err
returns-in-Ok-clause-err g c = IfErr-weaker c.open_on.result _ _ (λ e is. inr is) (c.open_on.ensures.err c.args.files c.in-Ok.ensures.ok)

pub returns-in-Err-clause-err : goal.returns-in-Err-clause-err
returns-in-Err-clause-err g c = inl c.in-Err.ensures.err

pub returns-in-Ok-clause-foreign : goal.returns-in-Ok-clause-foreign
returns-in-Ok-clause-foreign g c = c.open_on.ensures.foreign c.args.files c.in-Ok.ensures.ok

pub returns-in-Err-clause-foreign : goal.returns-in-Err-clause-foreign
returns-in-Err-clause-foreign g c told = absurd (not_foreign c.in-Err.left.0 c.in-Err.ensures.err.0 told)
