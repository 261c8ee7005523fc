use Rattle.std.proofs.Common.{◌≡◌, false, sym, subst}
use Rattle.serde_json.specs.Data.{Members}
use Rattle.serde_json.specs.Written.{members_have_float}
use Rattle.registry_wire.proofs.FieldLemmas.{accepted_plain}
use Rattle.registry_wire.proofs.accepted_writer.line_of.Goals as goal

pub object_text-requires : goal.object_text-requires
object_text-requires c =
    subst (λ (ms : Members). members_have_float ms ≡ false) (sym c.in_ok-accepted_members.ensures) (accepted_plain (record { request = c.args.request.now; reply = c.args.reply.now }))
