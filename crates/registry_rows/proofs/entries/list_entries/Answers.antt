use Rattle.sqlite_keyed.specs.Lists.{sort_by}
use Rattle.table_laws.proofs.ReadLemmas.{valid_unnumbered}
use Rattle.registry_rows.specs.Rows.{entry_row, by_number, IsEntry}
use Rattle.registry_rows.proofs.StepLemmas.{reads_all, valid_sorted}
use Rattle.registry_rows.proofs.entries.list_entries.Goals as goal

pub returns : goal.returns
returns g c = record { reads = reads_all IsEntry entry_row (λ t. sort_by by_number t.entries) c.in_ok-rows.ensures.reads (λ t has. valid_sorted IsEntry by_number t.entries (valid_unnumbered IsEntry entry_row _ t.entries has.rows.entries)) (λ all. all.items) (rw c.deref.ensures.value at c.all_from.ensures) }
