-- What the commands that act on requests over a log ask of the machine.
use Rattle.std.specs.Prelude.{◌≡◌, ◌⊎◌, ℕ, List, Option, Result, Ok, Err}
use Rattle.sqlite_disk.specs.declared.Disk as disk
use Rattle.sqlite.specs.Store as store
use Rattle.byte_streams.specs.declared.streams.Source as source
use Rattle.byte_streams.specs.Streams.{MayGive}
use Rattle.registry_rules.specs.declared.rejection.Rejection.{Rejection}
use Rattle.registry_rules.specs.declared.rejection.Rejection.TheVariants.{Refused, NoMemory}
use Rattle.registry_store.specs.declared.registry.Registry.{Registry}
use Rattle.registry_commands.specs.declared.arguments.BadArgument.{BadArgument}
use Rattle.registry_commands.specs.declared.importing.Import.{Import}
use Rattle.registry_commands.specs.declared.messages.Failure.{Failure}
use Rattle.registry_commands.specs.declared.messages.Failure.TheVariants.{Memory}
use Rattle.registry_commands.specs.declared.status.ExitStatus.{ExitStatus}
use Rattle.registry_commands.specs.declared.status.ExitStatus.TheVariants.{Failed}
use Rattle.registry_commands.specs.Ends.{Ends, Sunk}
use Rattle.registry_commands.specs.Failures.{IsOfInput, IsTooLong, Prints, TellsFailedReads}
use Rattle.registry_commands.specs.Imports.{AsksFor}
use Rattle.registry_commands.specs.Lines.{requests_in}
use Rattle.registry_commands.specs.Messages.{failure_line}
use Rattle.shared_log.specs.declared.log.Log as log
use Rattle.shared_registry.specs.Cursors.{log_of}
use Rattle.shared_registry.specs.declared.cursor.Cursor.{Cursor}
use Rattle.shared_registry.specs.declared.stop.ShareStop.{ShareStop}
use Rattle.shared_commands.specs.Applied.{Did, DidApply}
use Rattle.shared_commands.specs.Imported.{DidImport}
use Rattle.registry_program.specs.declared.host.Host as host
use Rattle.registry_program.specs.declared.logs.Logs as logs
use Rattle.registry_program.specs.Commands.{ReadsNamed, RunsReading}
use Rattle.registry_program.specs.Outputs.{IsFailure, IsRejection, later}
use Rattle.registry_program.specs.Sharing.{IsFollowed, IsNotFollowed, TellsShareStop}

-- How a command ends that acted over a log: as it did; or this stopped it, and the log is left.
abbrev pub TellsEndOverLog : {H K : Type 0} → logs.Ghosts H K → H → H → K → Result ExitStatus ShareStop → Ends → Type 0
TellsEndOverLog k old new log (Ok status) ends = k.closes old new log × (ends.status ≡ status) × (ends.errors.new ≡ ends.errors.old)
TellsEndOverLog k old new log (Err stop) ends = k.leaves old new log stop × TellsShareStop stop ends

-- the input could not be opened, which is printed, and nothing was done
pub record DidNotOpen {S L : Type 0} {g : store.Ghosts S} (it : Did S g L) (failure : Failure) : Type 0 where
  pub same : it.new ≡ it.old
  pub same_place : it.to ≡ it.from
  pub silent : it.out.new ≡ it.out.old
  pub end_is : it.end ≡ Ok Failed
  pub told : Prints it.errors (failure_line failure)

module _ {S L : Type 0} {g : store.Ghosts S} (l : log.Ghosts L) (it : Did S g L) where
  -- the request lines of a source were answered, except for the first answered ones, as `apply_shared` says
  abbrev pub AnswersLines : {I : Type 0} → source.Ghosts I → ℕ → I → I → Type 0
  AnswersLines s answered old new =
      (bytes : List ℕ) × MayGive (s.remaining old) bytes
      × DidApply l it (IsOfInput (s.failures old) (s.failures new) bytes) (requests_in bytes) answered
      × (IsTooLong bytes → it.end ≡ Ok Failed)
      × TellsFailedReads (it.end ≡ Ok Failed) it.errors (s.failures old) (s.failures new) bytes

  -- the list of a source was imported, as `import_shared` says
  abbrev pub AnswersList : {I : Type 0} → source.Ghosts I → Import → I → I → Type 0
  AnswersList s import old new =
      (bytes : List ℕ) × MayGive (s.remaining old) bytes
      × DidImport l it (IsOfInput (s.failures old) (s.failures new) bytes) import bytes
      × TellsFailedReads (it.end ≡ Ok Failed) it.errors (s.failures old) (s.failures new) bytes

  module _ {H F I R : Type 0} (m : host.Ghosts H F I) (s : source.Ghosts I) (r : source.Ghosts R) where
    -- that was done with the standard input, or with the file of this name; or it could not be opened
    abbrev pub AnswersNamed : List ℕ → ℕ → R → R → H → H → Type 0
    AnswersNamed file answered input input_new old new =
        ReadsNamed m input input_new old new file (AnswersLines r answered) (AnswersLines s answered) (DidNotOpen it)

    abbrev pub AnswersListOf : List ℕ → Import → R → R → H → H → Type 0
    AnswersListOf list import input input_new old new =
        ReadsNamed m input input_new old new list (AnswersList r import) (AnswersList s import) (DidNotOpen it)

-- what a command over a log did before it ended, by what its outputs had taken then
abbrev pub did_till : {S L : Type 0} {g : store.Ghosts S} → Registry S g → Registry S g → Cursor L → Cursor L → Ends → Sunk → Result ExitStatus ShareStop → Did S g L
did_till it after cursor left ends errors end =
    record { old = it; new = after; from = cursor; to = left; out = ends.out; errors = record { old = ends.errors.old; new = errors }; end = end }

module _ {H F I R K : Type 0} (m : host.Ghosts H F I) (d : disk.Ghosts F) (s : source.Ghosts I) (r : source.Ghosts R) (k : logs.Ghosts H K) (l : log.Ghosts K) where
  -- the request lines of this input were answered over the log that the registry follows, and the command ended so
  pub record AppliesJoined {S : Type 0} {g : store.Ghosts S} (file : List ℕ) (answered : ℕ) (input input_new : R) (old new : H) (it after : Registry S g) (cursor : Cursor K) (ends : Ends) : Type 0 where
    pub read : H
    pub left : Cursor K
    pub errors : Sunk
    pub end : Result ExitStatus ShareStop
    pub answers : AnswersNamed l (did_till it after cursor left ends errors end) m s r file answered input input_new old read
    pub tells : (out : Sunk) → TellsEndOverLog k read new (log_of left) end (record (later ends errors) { out = record { old = out; new = out } })

  -- the list of this input was imported over it
  pub record ImportsJoined {S : Type 0} {g : store.Ghosts S} (list : List ℕ) (import : Import) (input input_new : R) (old new : H) (it after : Registry S g) (cursor : Cursor K) (ends : Ends) : Type 0 where
    pub read : H
    pub left : Cursor K
    pub errors : Sunk
    pub end : Result ExitStatus ShareStop
    pub answers : AnswersListOf l (did_till it after cursor left ends errors end) m s r list import input input_new old read
    pub tells : (out : Sunk) → TellsEndOverLog k read new (log_of left) end (record (later ends errors) { out = record { old = out; new = out } })

  module _ (input input_new : R) where
    -- The log could not be followed, and the standard input was left alone; or this was done over it.
    abbrev pub FollowsReading : {S : Type 0} {g : store.Ghosts S} → List ℕ → (H → H → Registry S g → Registry S g → Cursor K → Ends → Type 0) → H → H → Registry S g → Registry S g → Ends → Type 0
    FollowsReading address Does before after it it_new ends = (IsNotFollowed k l address before after it it_new ends × (input_new ≡ input)) ⊎ IsFollowed k l address Does before after it it_new ends

    -- apply STORE FILE over the log at an address
    abbrev pub AppliesShared : H → H → List ℕ → List ℕ → ℕ → List ℕ → Ends → Type 0
    AppliesShared old new path file answered address ends = RunsReading m d s r input input_new old new path ends (FollowsReading address (AppliesJoined file answered input input_new))

    -- import STORE LIST over the log at an address, with what is asked for
    abbrev pub ImportsSharedAs : H → H → List ℕ → List ℕ → Result Import (Rejection BadArgument) → List ℕ → Ends → Type 0
    ImportsSharedAs old new path list (Ok import) address ends = RunsReading m d s r input input_new old new path ends (FollowsReading address (ImportsJoined list import input input_new))
    ImportsSharedAs old new path list (Err (Refused argument)) address ends = (new ≡ old) × (input_new ≡ input) × IsRejection argument ends
    ImportsSharedAs old new path list (Err NoMemory) address ends = (new ≡ old) × (input_new ≡ input) × IsFailure Memory ends

    abbrev pub ImportsShared : H → H → List ℕ → List ℕ → List ℕ → List ℕ → List ℕ → Option (List ℕ) → List ℕ → Ends → Type 0
    ImportsShared old new path list caller key org vendor address ends =
        (asked : Result Import (Rejection BadArgument)) × AsksFor caller key org vendor asked × ImportsSharedAs old new path list asked address ends
