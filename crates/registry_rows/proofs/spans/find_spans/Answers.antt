use Rattle.std.proofs.Common.{filter}
use Rattle.sqlite_keyed.specs.Lists.{sort_by}
use Rattle.table_laws.proofs.ReadLemmas.{valid_unnumbered}
use Rattle.registry_rows.specs.Rows.{span_row, by_beginning, meets, IsVendorSpan}
use Rattle.registry_rows.proofs.StepLemmas.{reads_all, valid_sorted}
use Rattle.sqlite_keyed.proofs.ListLemmas.{all-filter}
use Rattle.registry_rows.proofs.spans.find_spans.Goals as goal

pub returns : goal.returns
returns g c = record { reads = reads_all IsVendorSpan span_row (λ t. sort_by by_beginning (filter (meets c.args.vid c.args.low c.args.high) t.spans)) c.in_ok-rows.ensures.reads (λ t has. valid_sorted IsVendorSpan by_beginning (filter (meets c.args.vid c.args.low c.args.high) t.spans) (all-filter IsVendorSpan (meets c.args.vid c.args.low c.args.high) t.spans (valid_unnumbered IsVendorSpan span_row _ t.spans has.rows.spans))) (λ all. all.items) (rw c.deref.ensures.value at c.all_from.ensures) }
