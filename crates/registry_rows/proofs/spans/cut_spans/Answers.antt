use Rattle.registry_rows.proofs.SpanLemmas.{cuts_spans}
use Rattle.registry_rows.proofs.StepLemmas.{changed}
use Rattle.registry_rows.proofs.spans.cut_spans.Goals as goal

pub returns : goal.returns
returns g c = record { writes = changed c.execute.ensures.same_reference c.execute.ensures.survives _ _ _ (λ clean inside. rw (c.params-to_sql.ensures, c.params-to_sql-2.ensures, c.params-to_sql-3.ensures, c.from.ensures, c.get.ensures.number) at (c.in_ok-execute.ensures.runs clean inside)) (cuts_spans _ _ c.args.vid c.args.low c.args.high _) }
