use Rattle.registry_rows.specs.Rows.{IsSpan, fixed_shown}
use Rattle.registry_rows.proofs.StepLemmas.{reads_all}
use Rattle.registry_rows.proofs.fixed.list_fixed.Goals as goal

pub returns : goal.returns
returns g c = record { reads = reads_all IsSpan fixed_shown (λ t. t.fixed) c.in_ok-rows.ensures.reads (λ t has. has.rows.fixed.valid) (λ all. all.items) (rw c.deref.ensures.value at c.all_from.ensures) }
