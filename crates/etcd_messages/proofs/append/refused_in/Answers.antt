use Rattle.serde_json.specs.View.{view, items_view}
use Rattle.etcd_messages.proofs.TreeLemmas.{refused_steps}
use Rattle.etcd_messages.proofs.append.refused_in.Goals as goal

pub returns : goal.returns
returns c =
    rw (refused_steps c.args.key.now (view c.args.value.now) (view c.in_ok-found.found.now) (items_view c.in_ok-pairs.pairs.now) c.in_ok-found.ensures c.in_ok-pairs.ensures)
    c.refused_by.ensures
