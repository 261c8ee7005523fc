-- What a command writes if it only shows something.
use Rattle.std.specs.Prelude.{◌≡◌, ◌⊎◌, ℕ, List}
use Rattle.registry_commands.specs.declared.messages.Failure.{Failure}
use Rattle.registry_commands.specs.declared.messages.Failure.TheVariants.{File}
use Rattle.registry_commands.specs.declared.status.ExitStatus.TheVariants.{Success, Failed}
use Rattle.registry_commands.specs.Ends.{Ends, Receives, ReceivesNothing, ReceivesPrefix}
use Rattle.registry_commands.specs.Failures.{IsOfOutput, PrintsFailure, PrintsNothing}

-- the text is written; or a prefix is written, and the error output says that a file failed, namely the output
abbrev pub IsPrinted : List ℕ → Ends → Type 0
IsPrinted text ends =
    ((ends.status ≡ Success) × Receives ends.out text × PrintsNothing ends.errors)
    ⊎ ((ends.status ≡ Failed) × ReceivesPrefix ends.out text
    × PrintsFailure (λ failure. (failure ≡ File) × IsOfOutput ends.out.old.failures ends.out.new.failures failure) ends.errors)

-- nothing is written, after a failure
abbrev pub IsUnprinted : (Failure → Type 0) → Ends → Type 0
IsUnprinted May ends = (ends.status ≡ Failed) × ReceivesNothing ends.out × PrintsFailure May ends.errors
