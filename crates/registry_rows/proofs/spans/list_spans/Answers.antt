use Rattle.sqlite_keyed.specs.Lists.{sort_by}
use Rattle.table_laws.proofs.ReadLemmas.{valid_unnumbered}
use Rattle.registry_rows.specs.Rows.{span_row, by_beginning, IsVendorSpan}
use Rattle.registry_rows.proofs.StepLemmas.{reads_all, valid_sorted}
use Rattle.registry_rows.proofs.spans.list_spans.Goals as goal

pub returns : goal.returns
returns g c = record { reads = reads_all IsVendorSpan span_row (λ t. sort_by by_beginning t.spans) c.in_ok-rows.ensures.reads (λ t has. valid_sorted IsVendorSpan by_beginning t.spans (valid_unnumbered IsVendorSpan span_row _ t.spans has.rows.spans)) (λ all. all.items) (rw c.deref.ensures.value at c.all_from.ensures) }
