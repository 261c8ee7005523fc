use Rattle.std.proofs.Common.{◌≡◌, ◌++◌}
use Rattle.toml.specs.View.{members_view}
use Rattle.registry_commands.specs.Keys.{key_lines}
use Rattle.registry_commands.proofs.founding_check.key_lines.Given as goal

-- the lines so far and the remaining ones
abbrev pub invariant-loop-key : goal.invariant-loop-key
invariant-loop-key l = l.text.items ++ key_lines (members_view l.key-iterator) ≡ key_lines (members_view l.table.entries)
