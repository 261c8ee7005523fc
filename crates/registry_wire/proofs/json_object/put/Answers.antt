use Rattle.std.proofs.Common.{refl}
use Rattle.serde_json.proofs.Views.{members_view-insert_entry}
use Rattle.registry_wire.proofs.json_object.put.Goals as goal

pub returns : goal.returns
returns c = rw (c.in_ok-insert.ensures.entries, members_view-insert_entry) (rw c.in_ok-from_str.ensures.ok refl)
