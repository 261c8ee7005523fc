use Rattle.registry_rows.specs.Rows.{meta_shown, IsMeta}
use Rattle.registry_rows.proofs.StepLemmas.{reads_all}
use Rattle.registry_old_rows.proofs.second.list_old_metas.Goals as goal

pub returns : goal.returns
returns g c = record { reads = reads_all IsMeta meta_shown (λ x. x.tables.metas) c.in_ok-rows.ensures.reads (λ x has. has.rows.first.lasting.metas.valid) (λ all. all.items) (rw c.deref.ensures.value at c.all_from.ensures) }
