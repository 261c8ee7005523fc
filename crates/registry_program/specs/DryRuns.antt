-- What the check of a founding and the dry run of an import ask of the machine, what they write, and their exit status.
use Rattle.std.specs.Prelude.{◌≡◌, ℕ, List, Option, Result, Ok, Err}
use Rattle.sqlite_disk.specs.declared.Disk as disk
use Rattle.sqlite.specs.Store as store
use Rattle.byte_streams.specs.declared.streams.Source as source
use Rattle.byte_streams.specs.Streams.{MayGive}
use Rattle.registry_rules.specs.declared.rejection.Rejection.{Rejection}
use Rattle.registry_rules.specs.declared.rejection.Rejection.TheVariants.{Refused, NoMemory}
use Rattle.registry_store.specs.declared.registry.Registry.{Registry}
use Rattle.registry_commands.specs.declared.arguments.BadArgument.{BadArgument}
use Rattle.registry_commands.specs.declared.importing.Import.{Import}
use Rattle.registry_commands.specs.declared.messages.Failure.TheVariants.{Memory}
use Rattle.registry_commands.specs.declared.status.ExitStatus.TheVariants.{Failed}
use Rattle.registry_commands.specs.DryRuns.{IsImportTried}
use Rattle.registry_commands.specs.Ends.{Ends, effect}
use Rattle.registry_commands.specs.Failures.{IsOfInput, IsTooLong, PrintsFailure, TellsFailedReads}
use Rattle.registry_commands.specs.Imports.{AsksFor}
use Rattle.registry_commands.specs.Keys.{IsFoundingChecked}
use Rattle.registry_program.specs.declared.host.Host as host
use Rattle.registry_program.specs.Commands.{ReadsFrom, ReadsNamed, RunsReading}
use Rattle.registry_program.specs.Outputs.{IsFailure, IsRejection}

-- ---- found --check

module _ {H F I : Type 0} (m : host.Ghosts H F I) (s : source.Ghosts I) where
  -- found STORE FOUNDING --check: the founding file was opened, and nothing else, and was checked; or it could not be opened
  abbrev pub ChecksFounding : H → H → List ℕ → Ends → Type 0
  ChecksFounding old new founding ends =
      ReadsFrom m old new founding
      (λ input input_new. (bytes : List ℕ) × MayGive (s.remaining input) bytes × (ends.out.new ≡ ends.out.old)
      × IsFoundingChecked (IsOfInput (s.failures input) (s.failures input_new) bytes) bytes ends.errors ends.status
      × (IsTooLong bytes → (ends.status ≡ Failed) × PrintsFailure (IsOfInput (s.failures input) (s.failures input_new) bytes) ends.errors)
      × TellsFailedReads (ends.status ≡ Failed) ends.errors (s.failures input) (s.failures input_new) bytes)
      (λ failure. IsFailure failure ends)

-- ---- import --check

-- the reply to the import of the list that a source gives is written
abbrev pub TriesList : {I : Type 0} → source.Ghosts I → {S : Type 0} {g : store.Ghosts S} → I → I → Import → Registry S g → Registry S g → Ends → Type 0
TriesList s old new import it after ends =
    (bytes : List ℕ) × MayGive (s.remaining old) bytes
    × IsImportTried (IsOfInput (s.failures old) (s.failures new) bytes) (effect it after ends) import bytes
    × TellsFailedReads (ends.status ≡ Failed) ends.errors (s.failures old) (s.failures new) bytes

module _ {H F I R : Type 0} (m : host.Ghosts H F I) (s : source.Ghosts I) (r : source.Ghosts R) where
  -- of the list that the standard input gives, or the file of this name; or it could not be opened
  abbrev pub TriesFile : {S : Type 0} {g : store.Ghosts S} → List ℕ → Import → R → R → H → H → Registry S g → Registry S g → Ends → Type 0
  TriesFile name import input input_new old new it after ends =
      ReadsNamed m input input_new old new name
      (λ first last. TriesList r first last import it after ends)
      (λ first last. TriesList s first last import it after ends)
      (λ failure. (after ≡ it) × IsFailure failure ends)

module _ {H F I : Type 0} (m : host.Ghosts H F I) (d : disk.Ghosts F) (s : source.Ghosts I) {R : Type 0} (r : source.Ghosts R) where
  -- import STORE LIST --check, with what is asked for
  abbrev pub TriesImportAs : R → R → H → H → List ℕ → List ℕ → Result Import (Rejection BadArgument) → Ends → Type 0
  TriesImportAs input input_new old new path list (Ok import) ends = RunsReading m d s r input input_new old new path ends (TriesFile m s r list import input input_new)
  TriesImportAs input input_new old new path list (Err (Refused argument)) ends = (new ≡ old) × (input_new ≡ input) × IsRejection argument ends
  TriesImportAs input input_new old new path list (Err NoMemory) ends = (new ≡ old) × (input_new ≡ input) × IsFailure Memory ends

  abbrev pub TriesImport : R → R → H → H → List ℕ → List ℕ → List ℕ → List ℕ → List ℕ → Option (List ℕ) → Ends → Type 0
  TriesImport input input_new old new path list caller key org vendor ends =
      (asked : Result Import (Rejection BadArgument)) × AsksFor caller key org vendor asked × TriesImportAs input input_new old new path list asked ends
