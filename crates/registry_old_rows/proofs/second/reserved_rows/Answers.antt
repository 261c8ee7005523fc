use Rattle.registry_rows.proofs.StepLemmas.{shows, shows_nothing}
use Rattle.registry_old_rows.proofs.OldTexts.{list_reserved_is, list_reserved_typed}
use Rattle.registry_old_rows.proofs.SecondLemmas.{reads_reserved}
use Rattle.registry_old_rows.proofs.second.reserved_rows.Goals as goal

pub returns : goal.returns
returns g c = record { reads = shows c.query_all.ensures.same_reference c.query_all.ensures.survives _ _ c.in_ok-query_all.ensures.ok (λ shown x has. reads_reserved x.vid _ _ _ shown x.tables x.numbers has) }

pub returns-in_err-query_all : goal.returns-in_err-query_all
returns-in_err-query_all g c = record { reads = shows_nothing c.query_all.ensures.same_reference c.query_all.ensures.survives _ _ list_reserved_is list_reserved_typed (λ x has. has.schema) c.from_residual.ensures.1 c.in_err-query_all.ensures.err }
