use Rattle.std.proofs.Common.{ℕ, List, arith}
use Rattle.registry_rows.specs.Rows.{IsTimeRow}
use Rattle.registry_rows.proofs.PutLemmas.{puts_opened}
use Rattle.registry_rows.proofs.StepLemmas.{changed}
use Rattle.registry_rows.proofs.times.put_opened.Goals as goal

pub returns : goal.returns
returns g c =
    let x : ℕ × List ℕ = (c.args.petition, c.args.time.now) in
    let valid : IsTimeRow x = record { petition = omega arith; time = c.as_str.ensures.valid } in
    record { writes = changed c.execute.ensures.same_reference c.execute.ensures.survives _ _ _ (λ clean inside. rw (c.params-to_sql.ensures, c.params-to_sql-2.ensures, c.as_str.ensures.text) at (c.in_ok-execute.ensures.runs clean inside)) (puts_opened _ _ x _ valid) }
