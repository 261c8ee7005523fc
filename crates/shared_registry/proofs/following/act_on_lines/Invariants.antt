use Rattle.std.proofs.Common.{◌≡◌, ◌<◌, ◌+◌, None, take}
use Rattle.sqlite.specs.State.{HasCleanDisk}
use Rattle.registry_rules.specs.History.{History}
use Rattle.registry_store.specs.Promise.{Endures, NotesForeign, Represents, state_of}
use Rattle.shared_registry.specs.Lines.{LeadsToLines}
use Rattle.shared_registry.proofs.following.act_on_lines.Given as goal

abbrev pub invariant-loop-line : goal.invariant-loop-line
invariant-loop-line g l = record {
  leads : (h : History) → Represents l.initial.registry h → HasCleanDisk (state_of l.registry) → LeadsToLines l.registry h (take l.line-index l.lines);
  counted : l.next ≡ l.initial.next + l.line-index;
  small : l.next < 4294967296;
  notes : NotesForeign l.initial.registry l.registry None;
  endures : Endures (state_of l.initial.registry) (state_of l.registry);
}
