use Rattle.std.specs.Map.Iter.{deref_pair}
use Rattle.std.proofs.lemmas.Map.Iter.{rest_more}
use Rattle.toml.specs.View.{members_view}
use Rattle.registry_commands.specs.Keys.{key_lines}
use Rattle.registry_commands.proofs.KeyLemmas.{line_next}
use Rattle.registry_commands.proofs.founding_check.key_lines.Goals as goal

pub loop-key-preserved : goal.loop-key-preserved
loop-key-preserved c =
    line_next c.loop-key.key-iterator c.next.new.self c.in-Some.key.now c.in-Some._value.now c.loop-key.text.items c.push_key.new.text.items (key_lines (members_view c.args.table.now.entries))
    (rest_more deref_pair c.loop-key.key-iterator c.next.new.self c.next.result (c.in-Some.key, c.in-Some._value) c.in-Some.is c.next.ensures.steps) c.loop-key.invariant (rw c.as_str.ensures.value at c.in_ok-push_key.ensures)
