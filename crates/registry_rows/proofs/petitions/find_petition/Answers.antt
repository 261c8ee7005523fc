use Rattle.registry_rows.specs.Rows.{IsPetition, petition_shown, is_numbered}
use Rattle.registry_rows.proofs.StepLemmas.{reads_first}
use Rattle.registry_rows.proofs.petitions.find_petition.Goals as goal

pub returns : goal.returns
returns g c = record { reads = reads_first IsPetition petition_shown (is_numbered c.args.id) (λ t. t.petitions) c.in_ok-rows.ensures.reads (λ t has. (has.rows.petitions.valid)) (rw c.deref.ensures.value at c.first_from.ensures) }
