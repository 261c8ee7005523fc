use Rattle.std.proofs.Common.{◌≡◌, take}
use Rattle.std.specs.Prelude.{map}
use Rattle.registry_commands.specs.Messages.{shown}
use Rattle.registry_commands.proofs.messages.shown_bytes.Given as goal

abbrev pub invariant-loop-byte : goal.invariant-loop-byte
invariant-loop-byte l = l.list.items ≡ map shown (take l.byte-index l.bytes)
