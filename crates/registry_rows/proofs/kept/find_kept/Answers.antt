use Rattle.std.proofs.Common.{ℤ}
use Rattle.sqlite_trees.proofs.ListLemmas.{all-map}
use Rattle.registry_rows.specs.declared.kept.KeptRow.{KeptRow}
use Rattle.registry_rows.specs.Rows.{IsKept, kept_row, is_kept_under}
use Rattle.registry_rows.specs.Tables.{replies}
use Rattle.registry_rows.proofs.StepLemmas.{reads_first}
use Rattle.registry_rows.proofs.kept.find_kept.Goals as goal

pub returns : goal.returns
returns g c = record { reads = reads_first IsKept kept_row (is_kept_under c.args.caller.now c.args.key.now) replies c.in_ok-rows.ensures.reads (λ t has. all-map IsKept (λ (k : ℤ × KeptRow). k.1) t.kept has.rows.kept.valid) (rw c.deref.ensures.value at c.first_from.ensures) }
