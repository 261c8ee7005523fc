use Rattle.registry_rows.specs.Rows.{IsReason, reason_shown, is_reason_of}
use Rattle.registry_rows.proofs.StepLemmas.{reads_first}
use Rattle.registry_rows.proofs.reasons.find_reason.Goals as goal

pub returns : goal.returns
returns g c = record { reads = reads_first IsReason reason_shown (is_reason_of c.args.petition) (λ t. t.reasons) c.in_ok-rows.ensures.reads (λ t has. (has.rows.reasons.valid)) (rw c.deref.ensures.value at c.first_from.ensures) }
