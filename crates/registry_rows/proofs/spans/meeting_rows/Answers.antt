use Rattle.registry_rows.proofs.StepLemmas.{shows, shows_nothing}
use Rattle.registry_rows.proofs.SpanLemmas.{reads_find_spans}
use Rattle.registry_rows.proofs.SpanTexts.{find_spans_is}
use Rattle.registry_rows.proofs.TypedTexts.{find_spans_typed}
use Rattle.registry_rows.proofs.spans.meeting_rows.Goals as goal

pub returns : goal.returns
returns g c = record { reads = shows c.query_all.ensures.same_reference c.query_all.ensures.survives _ _ (λ clean. rw (c.params-to_sql.ensures, c.params-to_sql-2.ensures, c.params-to_sql-3.ensures, c.from.ensures, c.get.ensures.number) at (c.in_ok-query_all.ensures.ok clean)) (reads_find_spans _ _ _ _ _ _) }

pub returns-in_err-query_all : goal.returns-in_err-query_all
returns-in_err-query_all g c = record { reads = shows_nothing c.query_all.ensures.same_reference c.query_all.ensures.survives _ _ find_spans_is (find_spans_typed _ _ _) (λ t has. has.schema) c.from_residual.ensures.1 (λ clean. rw (c.params-to_sql.ensures, c.params-to_sql-2.ensures, c.params-to_sql-3.ensures, c.from.ensures, c.get.ensures.number) at (c.in_err-query_all.ensures.err clean)) }
