-- The line of an accepted request that has no right digest.
use Rattle.std.proofs.Common.{◌≡◌, ℕ, List, Option, Result, Err, refl}
use Rattle.registry_rules.specs.Gives.{Gives}
use Rattle.registry_rules.specs.declared.accepted.Accepted.{Accepted}
use Rattle.registry_rules.specs.declared.rejection.Rejection.{Rejection}
use Rattle.registry_rules.specs.declared.rejection.Rejection.TheVariants.{Refused, NoMemory}
use Rattle.registry_wire.specs.declared.record.RecordLine.{RecordLine}
use Rattle.registry_wire.specs.declared.refusal.WireRefusal.{WireRefusal}
use Rattle.registry_wire.specs.Record.{line_with}

pub line_fails : (accepted : Accepted) (found : Result (Option (List ℕ)) WireRefusal) (rejection : Rejection WireRefusal) → Gives {A = Option (List ℕ)} (Err rejection) found → Gives {A = RecordLine} (Err rejection) (line_with accepted found)
line_fails accepted found (Refused refusal) is = rw is refl
line_fails accepted found NoMemory is = tt
