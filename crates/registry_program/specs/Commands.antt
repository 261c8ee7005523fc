-- What each command asks of the machine, in which order, what it writes, and its exit status.
use Rattle.std.specs.Prelude.{◌≡◌, ◌≢◌, ◌⊎◌, Bool, true, false, ℕ, List, codes, Option, Some, None, Result, Ok, Err}
use Rattle.std.specs.Str.{bytes_eq}
use Rattle.sqlite_disk.specs.declared.Disk as disk
use Rattle.sqlite_store.specs.declared.store.FileStore.{FileStore}
use Rattle.sqlite.specs.Files.{over_files}
use Rattle.sqlite.specs.Held.{Held}
use Rattle.sqlite.specs.Store as store
use Rattle.byte_streams.specs.declared.streams.Source as source
use Rattle.byte_streams.specs.Streams.{MayGive, most_bytes}
use Rattle.usbids_text.specs.declared.seen.Wanted.{Wanted}
use Rattle.usbids_text.specs.Moments.{Moment, is_moment}
use Rattle.registry_rules.specs.declared.founding.Founding.{Founding}
use Rattle.registry_rules.specs.declared.rejection.Rejection.{Rejection}
use Rattle.registry_rules.specs.declared.rejection.Rejection.TheVariants.{Refused, NoMemory}
use Rattle.registry_wire.specs.Founding.{founding_listed}
use Rattle.registry_wire.specs.Stamps.{moment_text}
use Rattle.registry_store.specs.declared.registry.Registry.{Registry}
use Rattle.registry_commands.specs.declared.arguments.BadArgument.{BadArgument}
use Rattle.registry_commands.specs.declared.arguments.BadArgument.TheVariants.{Name, Pid, Stamp, Vid}
use Rattle.registry_commands.specs.declared.importing.Import.{Import}
use Rattle.registry_commands.specs.declared.messages.Failure.{Failure}
use Rattle.registry_commands.specs.declared.messages.Failure.TheVariants.{Memory}
use Rattle.registry_reports.specs.declared.kinds.ReportKind.{ReportKind}
use Rattle.registry_commands.specs.declared.status.ExitStatus.{ExitStatus}
use Rattle.registry_commands.specs.declared.status.ExitStatus.TheVariants.{Failed}
use Rattle.registry_commands.specs.Apply.{IsApplied, IsUnread}
use Rattle.registry_commands.specs.Ends.{Ends, Output, ReceivesNothing, Sunk, effect}
use Rattle.registry_commands.specs.Failures.{IsOfInput, IsTooLong, Prints, PrintsFailure, TellsFailedReads}
use Rattle.registry_commands.specs.Found.{IsTriedOn, ReadsFounding, attempt}
use Rattle.registry_commands.specs.Heads.{IsHeadShown}
use Rattle.registry_commands.specs.Imports.{AsksFor, IsImported}
use Rattle.registry_commands.specs.Lines.{requests_in}
use Rattle.registry_commands.specs.LookUp.{IsLookedUp}
use Rattle.registry_commands.specs.Messages.{failure_line}
use Rattle.registry_commands.specs.Recorded.{IsRecordWritten}
use Rattle.registry_commands.specs.Reports.{IsReported}
use Rattle.registry_commands.specs.Shown.{IsExported}
use Rattle.registry_commands.specs.Trial.{IsOfStart, IsTrialOf}
use Rattle.registry_program.specs.declared.host.Host as host
use Rattle.registry_program.specs.Outputs.{IsFailure, IsRejection, earlier, later}
use Rattle.registry_program.specs.Stores.{Closes, IsConnected, IsMissed, IsRunOver, IsUnconnected, Runs, TheRegistry}

-- ---- inputs

module _ {H F I : Type 0} (m : host.Ghosts H F I) where
  -- the file at this path, which may have 4,294,967,295 bytes, was opened and this was done with its source, or it could not be
  -- opened and this is so
  abbrev pub ReadsFrom : H → H → List ℕ → (I → I → Type 0) → (Failure → Type 0) → Type 0
  ReadsFrom old new path Does Fails =
      ((input : I) × (input_new : I) × m.reads old new path most_bytes input × Does input input_new) ⊎ ((failure : Failure) × m.lacks old new path most_bytes failure × Fails failure)

-- the input of this name is the standard input
abbrev pub is_standard : List ℕ → Bool
is_standard name = bytes_eq name (codes "-")

module _ {H F I R : Type 0} (m : host.Ghosts H F I) where
  -- the first was done with the standard input, and no file was opened; or the name is that of a file, the standard input was
  -- left alone, and the others are so
  abbrev pub ReadsNamed : R → R → H → H → List ℕ → (R → R → Type 0) → (I → I → Type 0) → (Failure → Type 0) → Type 0
  ReadsNamed input input_new old new name DoesStandard Does Fails =
      ((is_standard name ≡ true) × (new ≡ old) × DoesStandard input input_new)
      ⊎ ((is_standard name ≡ false) × (input_new ≡ input) × ReadsFrom m old new name Does Fails)

-- ---- trial

-- request lines of an input are acted on in a trial
abbrev pub Tries : {R : Type 0} → source.Ghosts R → R → R → Ends → Type 0
Tries s input input_new ends =
    (bytes : List ℕ) × MayGive (s.remaining input) bytes
    × IsTrialOf (IsOfInput (s.failures input) (s.failures input_new) bytes) (requests_in bytes) ends
    × (IsTooLong bytes → (ends.status ≡ Failed) × ReceivesNothing ends.out × PrintsFailure (IsOfStart (IsOfInput (s.failures input) (s.failures input_new) bytes)) ends.errors)
    × TellsFailedReads (ends.status ≡ Failed) ends.errors (s.failures input) (s.failures input_new) bytes

-- ---- apply

-- the request lines of a source are acted on, except for the first answered ones
abbrev pub ActsOnLines : {I : Type 0} → source.Ghosts I → {S : Type 0} {g : store.Ghosts S} → I → I → ℕ → Registry S g → Registry S g → Ends → Type 0
ActsOnLines s old new answered it after ends =
    (bytes : List ℕ) × MayGive (s.remaining old) bytes
    × IsApplied (IsOfInput (s.failures old) (s.failures new) bytes) (effect it after ends) (requests_in bytes) answered
    × (IsTooLong bytes → (ends.status ≡ Failed) × IsUnread (IsOfInput (s.failures old) (s.failures new) bytes) (effect it after ends))
    × TellsFailedReads (ends.status ≡ Failed) ends.errors (s.failures old) (s.failures new) bytes

module _ {H F I R : Type 0} (m : host.Ghosts H F I) (s : source.Ghosts I) (r : source.Ghosts R) where
  -- those of the standard input, or of the file of this name, are; or it could not be opened
  abbrev pub ActsOnFile : {S : Type 0} {g : store.Ghosts S} → List ℕ → ℕ → R → R → H → H → Registry S g → Registry S g → Ends → Type 0
  ActsOnFile name answered input input_new old new it after ends =
      ReadsNamed m input input_new old new name
      (λ first last. ActsOnLines r first last answered it after ends)
      (λ first last. ActsOnLines s first last answered it after ends)
      (λ failure. (after ≡ it) × IsFailure failure ends)

-- ---- import

-- the list that a source gives is imported
abbrev pub ImportsList : {I : Type 0} → source.Ghosts I → {S : Type 0} {g : store.Ghosts S} → I → I → Import → Registry S g → Registry S g → Ends → Type 0
ImportsList s old new import it after ends =
    (bytes : List ℕ) × MayGive (s.remaining old) bytes
    × IsImported (IsOfInput (s.failures old) (s.failures new) bytes) (effect it after ends) import bytes
    × TellsFailedReads (ends.status ≡ Failed) ends.errors (s.failures old) (s.failures new) bytes

module _ {H F I R : Type 0} (m : host.Ghosts H F I) (s : source.Ghosts I) (r : source.Ghosts R) where
  -- that of the standard input, or of the file of this name, is; or it could not be opened
  abbrev pub ImportsFile : {S : Type 0} {g : store.Ghosts S} → List ℕ → Import → R → R → H → H → Registry S g → Registry S g → Ends → Type 0
  ImportsFile name import input input_new old new it after ends =
      ReadsNamed m input input_new old new name
      (λ first last. ImportsList r first last import it after ends)
      (λ first last. ImportsList s first last import it after ends)
      (λ failure. (after ≡ it) × IsFailure failure ends)

-- ---- lists and reports

-- what is read in the stamp of an export: no stamp if it is absent, else the moment of the text, or the refusal of a text
-- of no moment
abbrev pub IsStampOf : Option (List ℕ) → Result (Option Moment) BadArgument → Type 0
IsStampOf None read = read ≡ Ok None
IsStampOf (Some text) (Ok None) = ⊥
IsStampOf (Some text) (Ok (Some moment)) = (is_moment moment ≡ true) × (moment_text moment ≡ text)
IsStampOf (Some text) (Err argument) = (argument ≡ Stamp) × ((m : Moment) → is_moment m ≡ true → moment_text m ≢ text)

-- the list of a registry is written
abbrev pub WritesList : {H S : Type 0} {g : store.Ghosts S} → Option Moment → H → H → Registry S g → Registry S g → Ends → Type 0
WritesList stamp old new it after ends = (new ≡ old) × IsExported (effect it after ends) stamp

-- a report on a registry is written
abbrev pub WritesReport : {H S : Type 0} {g : store.Ghosts S} → ReportKind → H → H → Registry S g → Registry S g → Ends → Type 0
WritesReport name old new it after ends = (new ≡ old) × IsReported (effect it after ends) name

-- the record of a registry is written, or only the requests after the first ones
abbrev pub WritesRecord : {H S : Type 0} {g : store.Ghosts S} → Option ℕ → H → H → Registry S g → Registry S g → Ends → Type 0
WritesRecord from old new it after ends = (new ≡ old) × IsRecordWritten (effect it after ends) from

-- where the record of a registry ends is written
abbrev pub WritesHead : {H S : Type 0} {g : store.Ghosts S} → H → H → Registry S g → Registry S g → Ends → Type 0
WritesHead old new it after ends = (new ≡ old) × (after ≡ it) × IsHeadShown it ends

module _ {H F I : Type 0} (m : host.Ghosts H F I) (s : source.Ghosts I) where
  -- a device is looked up in the list in the file at this path; or it could not be opened
  abbrev pub LooksUpIn : H → H → List ℕ → Wanted → Ends → Type 0
  LooksUpIn old new path wanted ends =
      ReadsFrom m old new path
      (λ input input_new. (bytes : List ℕ) × MayGive (s.remaining input) bytes
      × IsLookedUp (IsOfInput (s.failures input) (s.failures input_new) bytes) wanted bytes ends
      × TellsFailedReads (ends.status ≡ Failed) ends.errors (s.failures input) (s.failures input_new) bytes)
      (λ failure. IsFailure failure ends)

-- ---- found

module _ {H F I : Type 0} (m : host.Ghosts H F I) (s : source.Ghosts I) where
  -- the founding file at this path is read; or it could not be opened
  abbrev pub ReadsFoundingAt : H → H → List ℕ → Output → Result Founding ExitStatus → Type 0
  ReadsFoundingAt old new path errors read =
      ReadsFrom m old new path
      (λ input input_new. (bytes : List ℕ) × MayGive (s.remaining input) bytes
      × ReadsFounding (IsOfInput (s.failures input) (s.failures input_new) bytes) (founding_listed bytes) errors read
      × (IsTooLong bytes → (read ≡ Err Failed) × PrintsFailure (IsOfInput (s.failures input) (s.failures input_new) bytes) errors)
      × TellsFailedReads (read ≡ Err Failed) errors (s.failures input) (s.failures input_new) bytes)
      (λ failure. (read ≡ Err Failed) × Prints errors (failure_line failure))

-- ---- commands

module _ {H F I : Type 0} (m : host.Ghosts H F I) (d : disk.Ghosts F) where
  -- history STORE
  abbrev pub PrintsRecord : H → H → List ℕ → Option ℕ → Ends → Type 0
  PrintsRecord old new path from ends = Runs m d old new path ends (WritesRecord from)

  -- head STORE
  abbrev pub PrintsHead : H → H → List ℕ → Ends → Type 0
  PrintsHead old new path ends = Runs m d old new path ends WritesHead

module _ {H F I : Type 0} (m : host.Ghosts H F I) (d : disk.Ghosts F) where
  -- the store was opened, or made, this registry was founded on it, and it was closed
  pub record IsFoundedOn (founding : Founding) (old new : H) (path : List ℕ) (ends : Ends) : Type 0 where
    pub opened : H
    pub conn : Held (FileStore F d)
    pub connected : IsConnected m d old opened path conn
    pub last : Held (FileStore F d)
    pub errors : Sunk
    pub before : ExitStatus
    pub tried : IsTriedOn over_files (attempt conn last (earlier ends errors before).errors before) founding
    pub silent : ends.out.new ≡ ends.out.old
    pub closes : Closes m d opened new last errors ends.errors.new before ends.status

  -- that, or it could not be opened
  abbrev pub FoundsOn : Founding → H → H → List ℕ → Ends → Type 0
  FoundsOn founding old new path ends =
      ((failure : Failure) × IsUnconnected m d old new path failure × IsFailure failure ends) ⊎ IsFoundedOn founding old new path ends

  -- by what was read of a founding file, when the error output had taken this: without a founding no store is opened
  abbrev pub FoundsBy : Result Founding ExitStatus → Sunk → H → H → List ℕ → Ends → Type 0
  FoundsBy (Ok founding) errors old new path ends = FoundsOn founding old new path (later ends errors)
  FoundsBy (Err status) errors old new path ends = (new ≡ old) × (ends.out.new ≡ ends.out.old) × (ends.errors.new ≡ errors) × (ends.status ≡ status)

module _ {H F I : Type 0} (m : host.Ghosts H F I) (d : disk.Ghosts F) (s : source.Ghosts I) where
  -- found STORE FOUNDING: the founding file was read before any store was opened, and this is what was read and printed
  pub record FoundsIn (old new : H) (path founding : List ℕ) (ends : Ends) : Type 0 where
    pub read : H
    pub errors : Sunk
    pub first : Result Founding ExitStatus
    pub reads : ReadsFoundingAt m s old read founding (record { old = ends.errors.old; new = errors }) first
    pub goes_on : FoundsBy m d first errors read new path ends

  module _ {R : Type 0} (r : source.Ghosts R) where
    -- The registry was opened, and this was done, which may read the standard input. Or it could not be opened, and nothing was read.
    abbrev pub RunsReading : R → R → H → H → List ℕ → Ends → (H → H → TheRegistry m d → TheRegistry m d → Ends → Type 0) → Type 0
    RunsReading input input_new old new path ends Does =
        ((failure : Failure) × IsMissed m d old new path failure × IsFailure failure ends × (input_new ≡ input)) ⊎ IsRunOver m d old new path ends Does

    -- apply STORE FILE
    abbrev pub Applies : R → R → H → H → List ℕ → List ℕ → ℕ → Ends → Type 0
    Applies input input_new old new path file answered ends = RunsReading input input_new old new path ends (ActsOnFile m s r file answered input input_new)

    -- import STORE LIST, with what is asked for
    abbrev pub ImportsAs : R → R → H → H → List ℕ → List ℕ → Result Import (Rejection BadArgument) → Ends → Type 0
    ImportsAs input input_new old new path list (Ok import) ends = RunsReading input input_new old new path ends (ImportsFile m s r list import input input_new)
    ImportsAs input input_new old new path list (Err (Refused argument)) ends = (new ≡ old) × (input_new ≡ input) × IsRejection argument ends
    ImportsAs input input_new old new path list (Err NoMemory) ends = (new ≡ old) × (input_new ≡ input) × IsFailure Memory ends

    abbrev pub Imports : R → R → H → H → List ℕ → List ℕ → List ℕ → List ℕ → List ℕ → Option (List ℕ) → Ends → Type 0
    Imports input input_new old new path list caller key org vendor ends =
        (asked : Result Import (Rejection BadArgument)) × AsksFor caller key org vendor asked × ImportsAs input input_new old new path list asked ends

  -- export STORE
  abbrev pub ExportsAs : H → H → List ℕ → Result (Option Moment) BadArgument → Ends → Type 0
  ExportsAs old new path (Err argument) ends = (new ≡ old) × IsRejection argument ends
  ExportsAs old new path (Ok stamp) ends = Runs m d old new path ends (WritesList stamp)

  abbrev pub Exports : H → H → List ℕ → Option (List ℕ) → Ends → Type 0
  Exports old new path stamp ends = (read : Result (Option Moment) BadArgument) × IsStampOf stamp read × ExportsAs old new path read ends

  -- report STORE NAME
  abbrev pub ReportsAs : H → H → List ℕ → Option ReportKind → Ends → Type 0
  ReportsAs old new path None ends = (new ≡ old) × IsRejection Name ends
  ReportsAs old new path (Some name) ends = Runs m d old new path ends (WritesReport name)

  -- lookup LIST VID PID
  abbrev pub LooksUp : H → H → List ℕ → Option ℕ → Option ℕ → Ends → Type 0
  LooksUp old new list None pid ends = (new ≡ old) × IsRejection Vid ends
  LooksUp old new list (Some vendor) None ends = (new ≡ old) × IsRejection Pid ends
  LooksUp old new list (Some vendor) (Some code) ends = LooksUpIn m s old new list (record { vendor = vendor; code = code }) ends
