use Rattle.registry_rows.proofs.PutLemmas.{puts_licence}
use Rattle.registry_rows.proofs.StepLemmas.{changed}
use Rattle.registry_rows.proofs.names.put_licence.Goals as goal

pub returns : goal.returns
returns g c =
    let valid = c.as_str.ensures.valid in
    record { writes = changed c.execute.ensures.same_reference c.execute.ensures.survives _ _ _ (λ clean inside. rw (c.params-to_sql.ensures, c.as_str.ensures.text) at (c.in_ok-execute.ensures.runs clean inside)) (puts_licence _ _ c.args.name.now _ valid) }
