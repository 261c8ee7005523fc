use Rattle.std.proofs.Common.{◌≡◌, ◌≤◌, take}
use Rattle.std.specs.List.{count_by}
use Rattle.registry_commands.specs.Checks.{is_held_entry}
use Rattle.registry_commands.proofs.comparing.count_held.Given as goal

abbrev pub invariant-loop-pair : goal.invariant-loop-pair
invariant-loop-pair l = record {
  is : l.held ≡ count_by is_held_entry (take l.pair-index l.numbers);
  small : l.held ≤ l.pair-index;
}
