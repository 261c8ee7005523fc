use Rattle.std.proofs.Common.{◌≡◌}
use Rattle.registry_rules.specs.History.{History}
use Rattle.registry_store.specs.Promise.{Represents}
use Rattle.registry_commands.specs.Checks.{EndsOn}
use Rattle.registry_commands.proofs.CheckLemmas.{LeadsSoFar}
use Rattle.registry_commands.proofs.checking.follow_piece.Given as goal

abbrev pub invariant-loop-accepted : goal.invariant-loop-accepted
invariant-loop-accepted l = (now : History) → Represents l.initial.replayed now → EndsOn l.replayed (LeadsSoFar now l.piece l.accepted-index)
