use Rattle.std.proofs.Common.{take, ℤ}
use Rattle.sqlite_keyed.proofs.ListLemmas.{all-filter}
use Rattle.sqlite_trees.proofs.ListLemmas.{all-map}
use Rattle.registry_rows.specs.declared.kept.KeptRow.{KeptRow}
use Rattle.registry_rows.specs.Rows.{IsKept, kept_row, is_after}
use Rattle.registry_rows.specs.Tables.{replies_after}
use Rattle.registry_rows.proofs.StepLemmas.{reads_all, valid_first}
use Rattle.registry_rows.proofs.kept.kept_after.Goals as goal

pub returns : goal.returns
returns g c =
    let n = c.args.after in
    record { reads = reads_all IsKept kept_row (λ t. take c.args.most (replies_after n t)) c.in_ok-rows.ensures.reads (λ t has. valid_first IsKept c.args.most (replies_after n t) (all-map IsKept (λ (k : ℤ × KeptRow). k.1) _ (all-filter (λ (k : ℤ × KeptRow). IsKept k.1) (is_after n) t.kept has.rows.kept.valid))) (λ all. all.items) (rw c.deref.ensures.value at c.all_from.ensures) }
