-- The line that says why a command failed, or what one that succeeded passed over.
use Rattle.std.specs.Prelude.{◌≡◌, ◌≢◌, ◌⊎◌, ◌||◌, ◌++◌, ⊤, ℕ, Bool, true, false, List, map, codes}
use Rattle.registry_arguments.specs.declared.command.Command.{Command}
use Rattle.registry_arguments.specs.declared.command.Command.TheVariants as command
use Rattle.registry_commands.specs.declared.status.ExitStatus.{ExitStatus}
use Rattle.registry_commands.specs.declared.status.ExitStatus.TheVariants.{Success}
use Rattle.registry_commands.specs.Ends.{Sunk}
use Rattle.registry_commands.specs.Failures.{Prints}
use Rattle.registry_commands.specs.Messages.{shown}
use Rattle.registry_program.specs.declared.last_line.Heard.{Heard}

-- the sink that everything is passed on to
abbrev pub sink_of : {E : Type 0} → Heard E → E
sink_of heard = heard.sink

-- one line: what it is about, and the cause
abbrev pub cause_line : List ℕ → List ℕ
cause_line words = (codes "usbreg: " ++ map shown words) ++ codes "\n"

-- the error output took this and nothing more, or then one such line, or a prefix of it if it failed
abbrev pub MayExplain : Sunk → Sunk → Type 0
MayExplain told new = (new ≡ told) ⊎ ((words : List ℕ) × Prints (record { old = told; new = new }) (cause_line words))

-- the command founds a registry, acts on request lines or imports a list
abbrev pub HasRemarks : Command (List ℕ) → Type 0
HasRemarks command.Trial = ⊤
HasRemarks (command.Found path founding) = ⊤
HasRemarks (command.Apply path file answered) = ⊤
HasRemarks (command.Import path list caller key org vendor) = ⊤
HasRemarks (command.ApplyShared path file answered address) = ⊤
HasRemarks (command.ImportShared path list caller key org vendor address) = ⊤
HasRemarks _ = ⊥

-- the command changes nothing, and is run for what it says
abbrev pub is_check : Command (List ℕ) → Bool
is_check (command.CheckFounding founding) = true
is_check (command.CheckImport path list caller key org vendor) = true
is_check _ = false

-- The line is said only if causes are asked for or the command is a check, and the command did not do what it was asked for, founds
-- a registry, acts on request lines or imports a list. After a founding that succeeded it names keys of the founding file, which are
-- ignored, after request lines their fields that are ignored, and after an import a list that has nothing of the vendor.
abbrev pub IsExplained : Bool → Command (List ℕ) → ExitStatus → Sunk → Sunk → Type 0
IsExplained verbose command status told new = (new ≡ told) ⊎ (((verbose || is_check command) ≡ true) × ((status ≢ Success) ⊎ HasRemarks command) × MayExplain told new)
