use Rattle.registry_rows.proofs.UpdateLemmas.{sets_held}
use Rattle.registry_rows.proofs.StepLemmas.{changed}
use Rattle.registry_rows.proofs.entries.set_held.Goals as goal

pub returns : goal.returns
returns g c = record { writes = changed c.execute.ensures.same_reference c.execute.ensures.survives _ _ _ (λ clean inside. rw (c.params-to_sql.ensures, c.params-to_sql-2.ensures, c.params-to_sql-3.ensures, c.from.ensures, c.from-2.ensures, c.get.ensures.number, c.get-2.ensures.number) at (c.in_ok-execute.ensures.runs clean inside)) (sets_held _ _ c.args.number c.args.held _) }
