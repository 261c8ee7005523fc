use Rattle.std.proofs.Common.{sym}
use Rattle.registry_rows.specs.Rows.{IsKept}
use Rattle.registry_rows.specs.declared.kept.KeptRow.{KeptRow}
use Rattle.registry_rows.proofs.PutLemmas.{puts_kept}
use Rattle.registry_rows.proofs.StepLemmas.{changed}
use Rattle.registry_rows.proofs.kept.put_kept.Goals as goal

pub returns : goal.returns
returns g c =
    let x : KeptRow = record { caller = c.args.caller.now; key = c.args.key.now; kept = record { order = c.args.order.now; reply = c.args.reply.now } } in
    let valid : IsKept x = record { caller = c.as_str.ensures.valid; key = c.as_str-2.ensures.valid; reply = rw (sym c.as_str-3.ensures) c.as_str-3.utf8 } in
    record { writes = changed c.execute.ensures.same_reference c.execute.ensures.survives _ _ _ (λ clean inside. rw (c.params-to_sql.ensures, c.params-to_sql-2.ensures, c.params-to_sql-3.ensures, c.params-to_sql-4.ensures, c.as_str.ensures.text, c.as_str-2.ensures.text, c.as_bytes.ensures, c.as_str-3.ensures) at (c.in_ok-execute.ensures.runs clean inside)) (puts_kept _ _ x _ valid) }
