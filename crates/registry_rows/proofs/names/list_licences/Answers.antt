use Rattle.sqlite_keyed.specs.Lists.{sort_by}
use Rattle.table_laws.proofs.ReadLemmas.{valid_unnumbered}
use Rattle.registry_rows.specs.Rows.{name_row, by_bytes}
use Rattle.usbnum_core.specs.Text.{IsTitle}
use Rattle.registry_rows.proofs.StepLemmas.{reads_all, valid_sorted}
use Rattle.registry_rows.proofs.names.list_licences.Goals as goal

pub returns : goal.returns
returns g c = record { reads = reads_all IsTitle name_row (λ t. sort_by by_bytes t.licences) c.in_ok-rows.ensures.reads (λ t has. valid_sorted IsTitle by_bytes t.licences (valid_unnumbered IsTitle name_row _ t.licences has.rows.licences)) (λ all. all.items) (rw c.deref.ensures.value at c.all_from.ensures) }
