use Rattle.registry_rows.proofs.StepLemmas.{shows, shows_nothing}
use Rattle.registry_rows.proofs.ReadLemmas.{reads_find_entries}
use Rattle.registry_rows.proofs.ReadTexts.{find_entries_is}
use Rattle.registry_rows.proofs.TypedTexts.{find_entries_typed}
use Rattle.registry_rows.proofs.entries.rows_between.Goals as goal

pub returns : goal.returns
returns g c = record { reads = shows c.query_all.ensures.same_reference c.query_all.ensures.survives _ _ (λ clean. rw (c.params-to_sql.ensures, c.params-to_sql-2.ensures, c.params-to_sql-3.ensures, c.from.ensures, c.from-2.ensures, c.from-3.ensures, c.get.ensures.number, c.get-2.ensures.number, c.get-3.ensures.number) at (c.in_ok-query_all.ensures.ok clean)) (reads_find_entries _ _ _ _ _ _) }

pub returns-in_err-query_all : goal.returns-in_err-query_all
returns-in_err-query_all g c = record { reads = shows_nothing c.query_all.ensures.same_reference c.query_all.ensures.survives _ _ find_entries_is (find_entries_typed _ _ _) (λ t has. has.schema) c.from_residual.ensures.1 (λ clean. rw (c.params-to_sql.ensures, c.params-to_sql-2.ensures, c.params-to_sql-3.ensures, c.from.ensures, c.from-2.ensures, c.from-3.ensures, c.get.ensures.number, c.get-2.ensures.number, c.get-3.ensures.number) at (c.in_err-query_all.ensures.err clean)) }
