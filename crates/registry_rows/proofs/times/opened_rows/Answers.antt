use Rattle.registry_rows.proofs.StepLemmas.{shows, shows_nothing}
use Rattle.registry_rows.proofs.ReadLemmas.{reads_find_opened}
use Rattle.registry_rows.proofs.ReadTexts.{find_opened_is}
use Rattle.registry_rows.proofs.TypedTexts.{find_opened_typed}
use Rattle.registry_rows.proofs.times.opened_rows.Goals as goal

pub returns : goal.returns
returns g c = record { reads = shows c.query_all.ensures.same_reference c.query_all.ensures.survives _ _ (λ clean. rw (c.params-to_sql.ensures) at (c.in_ok-query_all.ensures.ok clean)) (reads_find_opened _ _ _ _) }

pub returns-in_err-query_all : goal.returns-in_err-query_all
returns-in_err-query_all g c = record { reads = shows_nothing c.query_all.ensures.same_reference c.query_all.ensures.survives _ _ find_opened_is (find_opened_typed _) (λ t has. has.schema) c.from_residual.ensures.1 (λ clean. rw (c.params-to_sql.ensures) at (c.in_err-query_all.ensures.err clean)) }
