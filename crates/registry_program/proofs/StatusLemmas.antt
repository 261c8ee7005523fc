-- The number of an exit status is 0, 1 or 2.
use Rattle.std.proofs.Common.{inl, inr, refl}
use Rattle.registry_commands.specs.declared.status.ExitStatus.{ExitStatus}
use Rattle.registry_commands.specs.declared.status.ExitStatus.TheVariants.{Success, Failed, Rejected}
use Rattle.registry_commands.specs.Ends.{code}
use Rattle.registry_program.specs.Statuses.{IsStatus}

pub is_status : (status : ExitStatus) → IsStatus (code status)
is_status Success = inl refl
is_status Failed = inr (inl refl)
is_status Rejected = inr (inr refl)
