use Rattle.registry_rows.proofs.StepLemmas.{shows, shows_nothing}
use Rattle.registry_rows.proofs.ReadLemmas.{reads_digests_after}
use Rattle.registry_rows.proofs.ReadTexts.{digests_after_is}
use Rattle.registry_rows.proofs.TypedTexts.{digests_after_typed}
use Rattle.registry_rows.proofs.digests.rows_after.Goals as goal

pub returns : goal.returns
returns g c = record { reads = shows c.query_all.ensures.same_reference c.query_all.ensures.survives _ _ (λ clean. rw (c.params-to_sql.ensures, c.params-to_sql-2.ensures) at (c.in_ok-query_all.ensures.ok clean)) (reads_digests_after _ _ _ _ _) }

pub returns-in_err-query_all : goal.returns-in_err-query_all
returns-in_err-query_all g c = record { reads = shows_nothing c.query_all.ensures.same_reference c.query_all.ensures.survives _ _ digests_after_is (digests_after_typed _ _) (λ t has. has.schema) c.from_residual.ensures.1 (λ clean. rw (c.params-to_sql.ensures, c.params-to_sql-2.ensures) at (c.in_err-query_all.ensures.err clean)) }
