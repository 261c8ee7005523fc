use Rattle.registry_rows.specs.Rows.{IsPetition, petition_shown}
use Rattle.registry_rows.proofs.StepLemmas.{reads_all}
use Rattle.registry_rows.proofs.petitions.list_petitions.Goals as goal

pub returns : goal.returns
returns g c = record { reads = reads_all IsPetition petition_shown (λ t. t.petitions) c.in_ok-rows.ensures.reads (λ t has. has.rows.petitions.valid) (λ all. all.items) (rw c.deref.ensures.value at c.all_from.ensures) }
