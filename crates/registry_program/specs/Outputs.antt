-- How a command of the program ends.
use Rattle.std.specs.Prelude.{◌≡◌}
use Rattle.byte_streams.specs.declared.streams.Sink as sink
use Rattle.registry_commands.specs.declared.arguments.BadArgument.{BadArgument}
use Rattle.registry_commands.specs.declared.messages.Failure.{Failure}
use Rattle.registry_commands.specs.declared.status.ExitStatus.{ExitStatus}
use Rattle.registry_commands.specs.declared.status.ExitStatus.TheVariants.{Failed, Rejected}
use Rattle.registry_commands.specs.Arguments.{bad_argument_line}
use Rattle.registry_commands.specs.Ends.{Ends, Sunk, output_of}
use Rattle.registry_commands.specs.Failures.{Prints}
use Rattle.registry_commands.specs.Messages.{failure_line}

-- how a command ends that was given no output, beside any output that stays as it is
abbrev pub silent_ends : {E : Type 0} → sink.Ghosts E → Sunk → E → E → ExitStatus → Ends
silent_ends e out errors errors_new status = record { out = record { old = out; new = out }; errors = output_of e errors errors_new; status = status }

-- the same, before its store was closed, by what the error output had taken then and the status
abbrev pub earlier : Ends → Sunk → ExitStatus → Ends
earlier ends errors status = record { out = ends.out; errors = record { old = ends.errors.old; new = errors }; status = status }

-- the same, from when the error output had taken this
abbrev pub later : Ends → Sunk → Ends
later ends errors = record { out = ends.out; errors = record { old = errors; new = ends.errors.new }; status = ends.status }

-- nothing was written but the message for this failure
abbrev pub IsFailure : Failure → Ends → Type 0
IsFailure failure ends = (ends.out.new ≡ ends.out.old) × (ends.status ≡ Failed) × Prints ends.errors (failure_line failure)

-- nothing was written but which argument is invalid
abbrev pub IsRejection : BadArgument → Ends → Type 0
IsRejection argument ends = (ends.out.new ≡ ends.out.old) × (ends.status ≡ Rejected) × Prints ends.errors (bad_argument_line argument)
