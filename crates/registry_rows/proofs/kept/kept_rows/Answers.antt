use Rattle.registry_rows.proofs.StepLemmas.{shows, shows_nothing}
use Rattle.registry_rows.proofs.ReadLemmas.{reads_find_kept}
use Rattle.registry_rows.proofs.ReadTexts.{find_kept_is}
use Rattle.registry_rows.proofs.TypedTexts.{find_kept_typed}
use Rattle.registry_rows.proofs.kept.kept_rows.Goals as goal

pub returns : goal.returns
returns g c = record { reads = shows c.query_all.ensures.same_reference c.query_all.ensures.survives _ _ (λ clean. rw (c.params-to_sql.ensures, c.params-to_sql-2.ensures, c.as_str.ensures.text, c.as_str-2.ensures.text) at (c.in_ok-query_all.ensures.ok clean)) (reads_find_kept _ _ _ _ _) }

pub returns-in_err-query_all : goal.returns-in_err-query_all
returns-in_err-query_all g c = record { reads = shows_nothing c.query_all.ensures.same_reference c.query_all.ensures.survives _ _ find_kept_is (find_kept_typed _ _) (λ t has. has.schema) c.from_residual.ensures.1 (λ clean. rw (c.params-to_sql.ensures, c.params-to_sql-2.ensures, c.as_str.ensures.text, c.as_str-2.ensures.text) at (c.in_err-query_all.ensures.err clean)) }
