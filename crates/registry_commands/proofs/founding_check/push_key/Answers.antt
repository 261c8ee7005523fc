use Rattle.std.proofs.Common.{◌∙◌, sym}
use Rattle.registry_commands.proofs.KeyLemmas.{line_pushed}
use Rattle.registry_commands.proofs.founding_check.push_key.Goals as goal

pub returns : goal.returns
returns c =
    line_pushed c.args.key.now c.args.text.now.items c.in_ok-shown.shown.items c.extend_from_slice.new.self.items c.extend_from_slice-2.new.self.items c.extend_from_slice-3.new.self.items
    (sym c.is_known_key.ensures ∙ c.if-is_known_key.false) (rw c.as_bytes.ensures.value at c.in_ok-shown.ensures) (rw c.as_bytes-2.ensures.value at c.in_ok-extend_from_slice.ensures.items)
    (rw c.deref.ensures.value at c.in_ok-extend_from_slice-2.ensures.items) (rw c.as_bytes-3.ensures.value at c.in_ok-extend_from_slice-3.ensures.items)
