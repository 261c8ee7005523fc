use Rattle.registry_rows.proofs.StepLemmas.{shows, shows_nothing}
use Rattle.registry_rows.proofs.ReadLemmas.{reads_last_digest}
use Rattle.registry_rows.proofs.ReadTexts.{last_digest_is}
use Rattle.registry_rows.proofs.TypedTexts.{last_digest_typed}
use Rattle.registry_rows.proofs.digests.last_rows.Goals as goal

pub returns : goal.returns
returns g c = record { reads = shows c.query_all.ensures.same_reference c.query_all.ensures.survives _ _ c.in_ok-query_all.ensures.ok (reads_last_digest _ _ _) }

pub returns-in_err-query_all : goal.returns-in_err-query_all
returns-in_err-query_all g c = record { reads = shows_nothing c.query_all.ensures.same_reference c.query_all.ensures.survives _ _ last_digest_is last_digest_typed (λ t has. has.schema) c.from_residual.ensures.1 c.in_err-query_all.ensures.err }
