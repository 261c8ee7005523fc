-- The text of 32 bytes is a digest.
use Rattle.std.proofs.Common.{◌≡◌, ◌∙◌, string_bytes, sym, subst, arith}
use Rattle.hex.specs.Hex.{IsBytes, encode_lower}
use Rattle.usbnum_core.specs.Text.{IsDigest}
use Rattle.registry_wire.proofs.DigestLemmas.{is_digest}
use Rattle.registry_wire.proofs.digest.digits_of.Goals as goal

pub unreachable-requires : goal.unreachable-requires
unreachable-requires c =
    let fits : IsBytes c.args.bytes.now = λ i. let f = c.type_inv.bytes i in omega arith in
    let text : string_bytes c.in_ok-digits.digits ≡ encode_lower c.args.bytes.now = c.in_ok-digits.ensures in
    let valid : IsDigest (encode_lower c.args.bytes.now) = is_digest c.args.bytes.now c.requires fits in
    let none = rw c.in-None.is at c.in_ok-digest.ensures in
    none (subst IsDigest (sym (c.as_bytes.ensures.value ∙ (c.as_str.ensures.value ∙ text))) valid)
