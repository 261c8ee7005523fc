use Rattle.std.proofs.Common.{ℤ, filter}
use Rattle.sqlite_keyed.proofs.ListLemmas.{all-filter}
use Rattle.sqlite_trees.proofs.ListLemmas.{all-map}
use Rattle.registry_rows.specs.declared.kept.KeptRow.{KeptRow}
use Rattle.registry_rows.specs.Rows.{IsKept, kept_row, has_reply_within}
use Rattle.registry_rows.specs.Tables.{replies}
use Rattle.registry_rows.proofs.StepLemmas.{reads_all}
use Rattle.registry_rows.proofs.kept.kept_with_replies.Goals as goal

pub returns : goal.returns
returns g c = record { reads = reads_all IsKept kept_row (λ t. filter (has_reply_within c.args.low.now c.args.high.now) (replies t)) c.in_ok-rows.ensures.reads (λ t has. all-filter IsKept (has_reply_within c.args.low.now c.args.high.now) (replies t) (all-map IsKept (λ (k : ℤ × KeptRow). k.1) t.kept has.rows.kept.valid)) (λ all. all.items) (rw c.deref.ensures.value at c.all_from.ensures) }
