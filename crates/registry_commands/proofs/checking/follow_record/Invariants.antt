use Rattle.std.proofs.Common.{◌≡◌, ◌-◌, None}
use Rattle.registry_store.specs.Promise.{NotesForeign}
use Rattle.registry_store.specs.Queries.{IsUntouched}
use Rattle.registry_commands.proofs.CheckLemmas.{HasCome}
use Rattle.registry_commands.proofs.checking.follow_record.Given as goal

abbrev pub invariant-loop-piece : goal.invariant-loop-piece
invariant-loop-piece g l = record {
  left : IsUntouched l.initial.registry l.registry;
  notes : NotesForeign l.initial.registry l.registry None;
  come : HasCome l.initial.registry l.registry l.initial.replayed l.replayed l.passed;
}

abbrev pub decreases-loop-piece : goal.decreases-loop-piece
decreases-loop-piece g l = 18446744073709551615 - l.passed
