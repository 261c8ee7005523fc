use Rattle.registry_rows.specs.Rows.{IsTimeRow, time_shown, is_time_of}
use Rattle.registry_rows.proofs.StepLemmas.{reads_first}
use Rattle.registry_rows.proofs.times.find_closed.Goals as goal

pub returns : goal.returns
returns g c = record { reads = reads_first IsTimeRow time_shown (is_time_of c.args.petition) (λ t. t.closed) c.in_ok-rows.ensures.reads (λ t has. (has.rows.closed.valid)) (rw c.deref.ensures.value at c.first_from.ensures) }
