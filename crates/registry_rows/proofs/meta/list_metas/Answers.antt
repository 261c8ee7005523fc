use Rattle.registry_rows.specs.Rows.{IsMeta, meta_shown}
use Rattle.registry_rows.proofs.StepLemmas.{reads_all}
use Rattle.registry_rows.proofs.meta.list_metas.Goals as goal

pub returns : goal.returns
returns g c = record { reads = reads_all IsMeta meta_shown (λ t. t.metas) c.in_ok-rows.ensures.reads (λ t has. has.rows.metas.valid) (λ all. all.items) (rw c.deref.ensures.value at c.all_from.ensures) }
