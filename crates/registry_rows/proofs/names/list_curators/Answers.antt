use Rattle.sqlite_keyed.specs.Lists.{sort_by}
use Rattle.table_laws.proofs.ReadLemmas.{valid_unnumbered}
use Rattle.registry_rows.specs.Rows.{name_row, by_bytes}
use Rattle.usbnum_core.specs.Text.{IsSlug}
use Rattle.registry_rows.proofs.StepLemmas.{reads_all, valid_sorted}
use Rattle.registry_rows.proofs.names.list_curators.Goals as goal

pub returns : goal.returns
returns g c = record { reads = reads_all IsSlug name_row (λ t. sort_by by_bytes t.curators) c.in_ok-rows.ensures.reads (λ t has. valid_sorted IsSlug by_bytes t.curators (valid_unnumbered IsSlug name_row _ t.curators has.rows.curators)) (λ all. all.items) (rw c.deref.ensures.value at c.all_from.ensures) }
