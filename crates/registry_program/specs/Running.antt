-- What the program does by its arguments.
use Rattle.std.specs.Prelude.{◌≡◌, ◌⊎◌, Bool, true, false, ℕ, List, Some, codes}
use Rattle.clap.specs.Words.{kind_of}
use Rattle.clap.specs.declared.error.Error.{Error}
use Rattle.clap.specs.declared.error.kind.ErrorKind.TheVariants.{DisplayHelp, DisplayVersion}
use Rattle.sqlite_disk.specs.declared.Disk as disk
use Rattle.byte_streams.specs.declared.streams.Sink as sink
use Rattle.byte_streams.specs.declared.streams.Source as source
use Rattle.byte_streams.specs.Streams.{FailsOnce}
use Rattle.registry_arguments.specs.declared.command.Command.{Command}
use Rattle.registry_arguments.specs.declared.command.Command.TheVariants as command
use Rattle.registry_arguments.specs.declared.command.Usage.{Usage}
use Rattle.registry_arguments.specs.declared.command.Usage.TheVariants.{Refused, NoMemory}
use Rattle.registry_arguments.specs.Commands.{IsOfFaults, accepts, command_of, faults_of}
use Rattle.registry_commands.specs.declared.messages.Failure.TheVariants.{File, Memory}
use Rattle.registry_commands.specs.declared.status.ExitStatus.TheVariants.{Success, Failed, Rejected}
use Rattle.registry_commands.specs.Ends.{Ends, Output, Receives, ReceivesPrefix, Sunk}
use Rattle.registry_commands.specs.Failures.{Prints}
use Rattle.registry_commands.specs.Messages.{failure_line}
use Rattle.registry_desk.specs.declared.server.Connections as connections
use Rattle.shared_log.specs.declared.log.Log as log
use Rattle.registry_program.specs.declared.host.Host as host
use Rattle.registry_program.specs.declared.logs.Logs as logs
use Rattle.registry_program.specs.Explained.{IsExplained}
use Rattle.registry_program.specs.Outputs.{IsFailure, earlier, later}
use Rattle.registry_program.specs.Performing.{IsWhole, Performs}

-- ---- the arguments are a command

-- what tells a person at a terminal that a trial waits for lines
abbrev pub prompt_line : List ℕ
prompt_line = codes "usbreg: request lines are read from the terminal; Ctrl-D ends them\n"

-- before a trial that a person waits for, the error output gets that line; otherwise it gets nothing before the command
abbrev pub IsPrompted : Bool → Command (List ℕ) → Output → Type 0
IsPrompted is_waited_for command.Trial errors = (is_waited_for ≡ true → Prints errors prompt_line) × (is_waited_for ≡ false → errors.new ≡ errors.old)
IsPrompted is_waited_for _ errors = errors.new ≡ errors.old

module _ {H F I R W IN K : Type 0} (m : host.Ghosts H F I) (d : disk.Ghosts F) (s : source.Ghosts I) (c : connections.Ghosts H R W) (r : source.Ghosts R) (w : sink.Ghosts W)
    (i : source.Ghosts IN) (k : logs.Ghosts H K) (l : log.Ghosts K) where
  -- The command was performed, as `Performs` and `IsWhole` say. The error output got the prompt before it, and the cause of a
  -- failure after it.
  pub record IsObeyed (command : Command (List ℕ)) (says_causes is_waited_for : Bool) (old new : H) (input input_new : IN) (ends : Ends) : Type 0 where
    pub begun : Sunk
    pub prompted : IsPrompted is_waited_for command (record { old = ends.errors.old; new = begun })
    pub told : Sunk
    pub performs : Performs m d s c r w i k l command old new input input_new (earlier (later ends begun) told ends.status)
    pub whole : IsWhole m d s c r w i k l command old new input input_new (earlier (later ends begun) told ends.status)
    pub explained : IsExplained says_causes command ends.status told ends.errors.new

-- ---- they are none

-- they ask for the help or for the version
abbrev pub AsksToShow : Error → Type 0
AsksToShow error = (kind_of error ≡ DisplayHelp) ⊎ (kind_of error ≡ DisplayVersion)

-- A text was written to the output, at the status Success. Or one write failed after a prefix of it, which the error output
-- says.
abbrev pub IsShown : Ends → Type 0
IsShown ends =
    ((text : List ℕ) × Receives ends.out text × (ends.errors.new ≡ ends.errors.old) × (ends.status ≡ Success))
    ⊎ ((text : List ℕ) × ReceivesPrefix ends.out text × FailsOnce ends.out.old.failures ends.out.new.failures
    × Prints ends.errors (failure_line File) × (ends.status ≡ Failed))

-- a text was written to the error output alone, at the status Rejected
abbrev pub IsUsageRefused : Ends → Type 0
IsUsageRefused ends = (ends.out.new ≡ ends.out.old) × (ends.status ≡ Rejected) × ((text : List ℕ) × Prints ends.errors text)

-- what is written by an error of `clap`: memory did not suffice for its text, or it is shown or refused
abbrev pub IsUsageTold : Error → Ends → Type 0
IsUsageTold error ends = IsFailure Memory ends ⊎ ((AsksToShow error → IsShown ends) × ((AsksToShow error → ⊥) → IsUsageRefused ends))

-- what is written where the arguments give no command
abbrev pub IsUsage : Usage → Ends → Type 0
IsUsage (Refused error) ends = IsUsageTold error ends
IsUsage NoMemory ends = IsFailure Memory ends

-- ---- both

module _ {H F I R W IN K : Type 0} (m : host.Ghosts H F I) (d : disk.Ghosts F) (s : source.Ghosts I) (c : connections.Ghosts H R W) (r : source.Ghosts R) (w : sink.Ghosts W)
    (i : source.Ghosts IN) (k : logs.Ghosts H K) (l : log.Ghosts K) where
  -- The arguments are a command, and it was performed. Or they are refused, ask for the help or the version, or memory does not
  -- suffice for them, and nothing was done but to say so.
  abbrev pub IsRunBy : List (List ℕ) → Bool → Bool → H → H → IN → IN → Ends → Type 0
  IsRunBy arguments says_causes is_waited_for old new input input_new ends =
      ((command : Command (List ℕ)) × (accepts arguments ≡ true) × (command_of arguments ≡ Some command)
      × IsObeyed m d s c r w i k l command says_causes is_waited_for old new input input_new ends)
      ⊎ ((usage : Usage) × (accepts arguments ≡ true → usage ≡ NoMemory) × IsOfFaults (faults_of arguments) usage
      × (new ≡ old) × (input_new ≡ input) × IsUsage usage ends)
