use Rattle.std.proofs.Common.{rules}
use Rattle.serde_json.specs.View.{view}
use Rattle.etcd_messages.proofs.TreeLemmas.{object_of_read, object_of_refused}
use Rattle.etcd_messages.proofs.answer.object_of.Goals as goal

pub returns-then-is_object : goal.returns-then-is_object
returns-then-is_object c = rw (object_of_read c.args.bytes.now (view c.in-Ok.value) c.in-Ok.ensures.ok.0 c.in-Ok.ensures.ok.1) (search rules)

pub returns-else-is_memory : goal.returns-else-is_memory
returns-else-is_memory c = object_of_refused c.args.bytes.now (c.in-Err.ensures.err (search rules))
