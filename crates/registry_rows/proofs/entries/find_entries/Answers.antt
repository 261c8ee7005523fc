use Rattle.std.proofs.Common.{filter}
use Rattle.sqlite_keyed.specs.Lists.{sort_by}
use Rattle.table_laws.proofs.ReadLemmas.{valid_unnumbered}
use Rattle.registry_rows.specs.Rows.{IsEntry, entry_row, by_number, is_between}
use Rattle.registry_rows.proofs.StepLemmas.{reads_all, valid_sorted}
use Rattle.sqlite_keyed.proofs.ListLemmas.{all-filter}
use Rattle.registry_rows.proofs.entries.find_entries.Goals as goal

pub returns : goal.returns
returns g c = record { reads = reads_all IsEntry entry_row (λ t. sort_by by_number (filter (is_between c.args.vid c.args.low c.args.high) t.entries)) c.in_ok-rows.ensures.reads (λ t has. valid_sorted IsEntry by_number (filter (is_between c.args.vid c.args.low c.args.high) t.entries) (all-filter IsEntry (is_between c.args.vid c.args.low c.args.high) t.entries (valid_unnumbered IsEntry entry_row _ t.entries has.rows.entries))) (λ all. all.items) (rw c.deref.ensures.value at c.all_from.ensures) }
