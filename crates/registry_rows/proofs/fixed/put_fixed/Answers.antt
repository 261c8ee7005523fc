use Rattle.registry_rows.specs.Rows.{IsSpan}
use Rattle.registry_rows.proofs.PutLemmas.{puts_fixed}
use Rattle.registry_rows.proofs.StepLemmas.{changed}
use Rattle.registry_rows.proofs.fixed.put_fixed.Goals as goal

pub returns : goal.returns
returns g c =
    let valid : IsSpan c.args.span = record { first = rw (c.get.ensures.number, c.first.ensures) at c.get.ensures.valid; last = rw (c.get-2.ensures.number, c.last.ensures.last) at c.get-2.ensures.valid } in
    record { writes = changed c.execute.ensures.same_reference c.execute.ensures.survives _ _ _ (λ clean inside. rw (c.params-to_sql.ensures, c.params-to_sql-2.ensures, c.from.ensures, c.from-2.ensures, c.get.ensures.number, c.get-2.ensures.number, c.first.ensures, c.last.ensures.last) at (c.in_ok-execute.ensures.runs clean inside)) (puts_fixed _ _ c.args.span _ valid) }
