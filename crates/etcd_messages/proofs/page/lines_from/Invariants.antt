use Rattle.std.proofs.Common.{◌≡◌, drop}
use Rattle.serde_json.specs.View.{items_view}
use Rattle.etcd_messages.specs.Answers.{lines_from}
use Rattle.etcd_messages.proofs.PageLemmas.{with_front}
use Rattle.etcd_messages.proofs.page.lines_from.Given as goal

abbrev pub invariant-loop-pair : goal.invariant-loop-pair
invariant-loop-pair l = with_front l.lines (lines_from l.name l.next (items_view (drop l.pair-index l.pairs))) ≡ lines_from l.name l.n (items_view l.pairs)
