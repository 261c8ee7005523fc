use Rattle.std.proofs.Common.{ℕ, arith}
use Rattle.registry_rows.specs.Rows.{IsDigestRow}
use Rattle.registry_rows.specs.declared.digests.DigestRow.{DigestRow}
use Rattle.registry_rows.proofs.GivenLemmas.{time_given}
use Rattle.registry_rows.proofs.PutLemmas.{puts_digest}
use Rattle.registry_rows.proofs.StepLemmas.{changed}
use Rattle.registry_rows.proofs.digests.put_digest.Goals as goal

pub returns : goal.returns
returns g c =
    let row : DigestRow = record { time = c.args.time.now; digest = c.args.digest.now } in
    let x : ℕ × DigestRow = (c.args.id, row) in
    let valid : IsDigestRow x = record { id = omega arith; time = c.or_null.ensures.valid; digest = c.as_str.ensures.valid } in
    record { writes = changed c.execute.ensures.same_reference c.execute.ensures.survives _ _ _ (λ clean inside. rw (c.params-to_sql.ensures, c.params-to_sql-2.ensures, c.params-to_sql-3.ensures, time_given c.args.time.now c.or_null.result c.or_null.ensures.value, c.as_str.ensures.text) at (c.in_ok-execute.ensures.runs clean inside)) (puts_digest _ _ x _ valid) }
