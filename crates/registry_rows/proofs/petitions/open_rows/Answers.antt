use Rattle.registry_rows.proofs.StepLemmas.{shows, shows_nothing}
use Rattle.registry_rows.proofs.ReadLemmas.{reads_open_petitions}
use Rattle.registry_rows.proofs.ReadTexts.{open_petitions_is}
use Rattle.registry_rows.proofs.TypedTexts.{open_petitions_typed}
use Rattle.registry_rows.proofs.petitions.open_rows.Goals as goal

pub returns : goal.returns
returns g c = record { reads = shows c.query_all.ensures.same_reference c.query_all.ensures.survives _ _ (λ clean. rw (c.params-to_sql.ensures, c.code_of.ensures) at (c.in_ok-query_all.ensures.ok clean)) (reads_open_petitions _ _ _) }

pub returns-in_err-query_all : goal.returns-in_err-query_all
returns-in_err-query_all g c = record { reads = shows_nothing c.query_all.ensures.same_reference c.query_all.ensures.survives _ _ open_petitions_is (open_petitions_typed _) (λ t has. has.schema) c.from_residual.ensures.1 (λ clean. rw (c.params-to_sql.ensures, c.code_of.ensures) at (c.in_err-query_all.ensures.err clean)) }
