-- What the files of a store hold after the commands over a log, by the history that the files held before them.
use Rattle.std.specs.Prelude.{◌≡◌, ◌⊎◌, ℕ, true, List, Option, None, Some, Result, Ok, Err}
use Rattle.sqlite_disk.specs.declared.Disk as disk
use Rattle.sqlite_disk.specs.declared.Files.{Files}
use Rattle.sqlite.specs.Files.{file_state}
use Rattle.sqlite.specs.WalReads.{AreClean}
use Rattle.byte_streams.specs.declared.streams.Sink as sink
use Rattle.byte_streams.specs.declared.streams.Source as source
use Rattle.registry_rules.specs.History.{History, founded}
use Rattle.registry_rules.specs.declared.founding.Founding.{Founding}
use Rattle.registry_laws.specs.Machines.{HasValidFields, IsOfMachine, LeadsToLater}
use Rattle.registry_rules.specs.declared.rejection.Rejection.{Rejection}
use Rattle.registry_rules.specs.declared.rejection.Rejection.TheVariants.{Refused, NoMemory}
use Rattle.registry_commands.specs.declared.arguments.BadArgument.{BadArgument}
use Rattle.registry_commands.specs.declared.importing.Import.{Import}
use Rattle.registry_commands.specs.declared.messages.Failure.{Failure}
use Rattle.registry_commands.specs.declared.messages.Failure.TheVariants.{Memory}
use Rattle.registry_commands.specs.declared.status.ExitStatus.TheVariants.{Success, Failed}
use Rattle.registry_commands.specs.Ends.{Ends}
use Rattle.registry_commands.specs.Imports.{AsksFor}
use Rattle.registry_tables.specs.Calls.{HasNoMeta}
use Rattle.registry_tables.specs.Rows.{newest}
use Rattle.registry_store.specs.Files.{HoldEither}
use Rattle.registry_store.specs.declared.fault.Fault.{Fault}
use Rattle.registry_desk.specs.declared.server.Connections as connections
use Rattle.shared_log.specs.Calls.{KeepsLines, LogLines}
use Rattle.shared_log.specs.declared.log.Log as log
use Rattle.shared_registry.specs.Cursors.{log_of}
use Rattle.shared_registry.specs.declared.cursor.Cursor.{Cursor}
use Rattle.shared_registry.specs.Follows.{GoesOnByOne}
use Rattle.shared_registry.specs.Lines.{fault_in_call}
use Rattle.shared_desk.specs.Refusals.{fault_behind_stop}
use Rattle.shared_desk.specs.Server.{stop_in_server}
use Rattle.registry_program.specs.declared.host.Host as host
use Rattle.registry_program.specs.declared.logs.Logs as logs
use Rattle.registry_program.specs.Outputs.{IsFailure, IsRejection, earlier}
use Rattle.registry_program.specs.SharedActs.{AppliesJoined, FollowsReading, ImportsJoined}
use Rattle.registry_program.specs.SharedReplay.{HasNoFoundingAt, IsFoundedAt, IsReplayedShared, ReplaysJoined}
use Rattle.registry_program.specs.Sharing.{IsFollowed, IsServedOver, ServesJoined, ServesOver, SharesInto}
use Rattle.registry_program.specs.Stores.{IsRunOver, IsUnconnected, TheRegistry}
use Rattle.registry_program.specs.Whole.{IsCarriedOn, IsUnreplayed, IsUsed, LeadsFilesTo, Stays, UnlessStopped}

-- share STORE: the history stays
abbrev pub SharesWholly : {H F I K : Type 0} → host.Ghosts H F I → disk.Ghosts F → logs.Ghosts H K → log.Ghosts K → H → H → List ℕ → List ℕ → Ends → Type 0
SharesWholly m d k l old new path address ends = UnlessStopped m d old new path ends (SharesInto k l address) (IsCarriedOn m d old new path Stays)

-- the second history is the first; or, after a fault of the registry, it may have one request more
abbrev pub MayGoOn : Option Fault → History → History → Type 0
MayGoOn None x y = y ≡ x
MayGoOn (Some fault) x y = GoesOnByOne x y

-- what a command over a log leaves of this history: it leads to both, and the record of each begins the log
abbrev pub IsLeftOver : LogLines → Option Fault → History → History → History → Type 0
IsLeftOver log fault h x y = LeadsToLater h x × MayGoOn fault x y × IsOfMachine log x × IsOfMachine log y

-- The files hold a history to which the one before leads, and the log begins with its record; after a fault of the registry they may hold
-- one of two.
abbrev pub LeadsFilesOver : {H F I K : Type 0} → host.Ghosts H F I → disk.Ghosts F → log.Ghosts K → H → List ℕ → Files F → Cursor K → Option Fault → Type 0
LeadsFilesOver {K = K} m d l old path files left fault =
    (lines : K → LogLines) → KeepsLines l lines → (h : History) → HasValidFields h → LeadsFilesTo m d old path files h h (IsLeftOver (lines (log_of left)) fault h)

module _ {H F I R W K : Type 0} (m : host.Ghosts H F I) (d : disk.Ghosts F) (c : connections.Ghosts H R W) (r : source.Ghosts R) (w : sink.Ghosts W) (k : logs.Ghosts H K) (l : log.Ghosts K) where
  -- the log was taken up, and connections were served over it
  pub record IsServedFrom (old new : H) (path : List ℕ) (port limit : ℕ) (address : List ℕ) (ends : Ends) : Type 0 where
    pub over : IsRunOver m d old new path ends (ServesOver m c r w k l port limit address)
    pub followed : IsFollowed k l address (ServesJoined m c r w k l port limit) over.opened over.done over.it over.after (earlier ends over.errors over.before)
    pub served : IsServedOver m c r w k l port limit followed.found over.done followed.middle over.after followed.cursor (earlier ends over.errors over.before)
    pub holds : LeadsFilesOver m d l old path over.closes.files served.left (fault_behind_stop (stop_in_server served.end))

  -- serve STORE over a log; without a log, or where the port could not be listened on, the history stays
  abbrev pub ServesSharedWholly : H → H → List ℕ → ℕ → ℕ → List ℕ → Ends → Type 0
  ServesSharedWholly old new path port limit address ends =
      UnlessStopped m d old new path ends (ServesOver m c r w k l port limit address) (IsServedFrom old new path port limit address ends ⊎ IsCarriedOn m d old new path Stays)

module _ {H F I R K : Type 0} (m : host.Ghosts H F I) (d : disk.Ghosts F) (s : source.Ghosts I) (r : source.Ghosts R) (k : logs.Ghosts H K) (l : log.Ghosts K) where
  module _ (input input_new : R) (old new : H) (path : List ℕ) where
    -- the log was taken up, and request lines were answered over it
    pub record IsAppliedFrom (file : List ℕ) (answered : ℕ) (address : List ℕ) (ends : Ends) : Type 0 where
      pub over : IsRunOver m d old new path ends (FollowsReading m d s r k l input input_new address (AppliesJoined m d s r k l file answered input input_new))
      pub followed : IsFollowed k l address (AppliesJoined m d s r k l file answered input input_new) over.opened over.done over.it over.after (earlier ends over.errors over.before)
      pub holds : LeadsFilesOver m d l old path over.closes.files followed.does.left (fault_in_call followed.does.end)

    -- apply STORE FILE over a log; without a log the history stays
    abbrev pub AppliesSharedWholly : List ℕ → ℕ → List ℕ → Ends → Type 0
    AppliesSharedWholly file answered address ends =
        UnlessStopped m d old new path ends (FollowsReading m d s r k l input input_new address (AppliesJoined m d s r k l file answered input input_new))
        (IsAppliedFrom file answered address ends ⊎ IsCarriedOn m d old new path Stays)

    -- the same of the list of an import
    pub record IsImportedFrom (list : List ℕ) (import : Import) (address : List ℕ) (ends : Ends) : Type 0 where
      pub over : IsRunOver m d old new path ends (FollowsReading m d s r k l input input_new address (ImportsJoined m d s r k l list import input input_new))
      pub followed : IsFollowed k l address (ImportsJoined m d s r k l list import input input_new) over.opened over.done over.it over.after (earlier ends over.errors over.before)
      pub holds : LeadsFilesOver m d l old path over.closes.files followed.does.left (fault_in_call followed.does.end)

    abbrev pub ImportsSharedWhollyAs : List ℕ → Result Import (Rejection BadArgument) → List ℕ → Ends → Type 0
    ImportsSharedWhollyAs list (Ok import) address ends =
        UnlessStopped m d old new path ends (FollowsReading m d s r k l input input_new address (ImportsJoined m d s r k l list import input input_new))
        (IsImportedFrom list import address ends ⊎ IsCarriedOn m d old new path Stays)
    ImportsSharedWhollyAs list (Err (Refused argument)) address ends = (new ≡ old) × IsRejection argument ends
    ImportsSharedWhollyAs list (Err NoMemory) address ends = (new ≡ old) × IsFailure Memory ends

    -- import STORE LIST over a log
    abbrev pub ImportsSharedWholly : List ℕ → List ℕ → List ℕ → List ℕ → Option (List ℕ) → List ℕ → Ends → Type 0
    ImportsSharedWholly list caller key org vendor address ends =
        (asked : Result Import (Rejection BadArgument)) × AsksFor caller key org vendor asked × ImportsSharedWhollyAs list asked address ends

module _ {H F I K : Type 0} (m : host.Ghosts H F I) (d : disk.Ghosts F) (k : logs.Ghosts H K) (l : log.Ghosts K) (founding : Founding) (address : List ℕ) (old new : H) (path : List ℕ) (ends : Ends) where
  -- The files hold a history to which this founding leads, and the log begins with its record; after a fault of the registry they may hold
  -- one of two.
  abbrev pub AreMadeOver : Files F → Cursor K → Option Fault → Type 0
  AreMadeOver files left fault =
      (lines : K → LogLines) → KeepsLines l lines → HasValidFields (founded founding) → AreClean d files.log files.db
      → (x : History) × (y : History) × IsLeftOver (lines (log_of left)) fault (founded founding) x y × HoldEither d newest files x y

  -- The log was taken up, and its lines were acted on, over the registry that the store held, or over a new one where it held no tables of
  -- one.
  pub record IsReplayedWholly : Type 0 where
    pub on : IsReplayedShared m d k l founding address old new path ends
    pub it : TheRegistry m d
    pub after : TheRegistry m d
    pub left_is : on.left ≡ Ok after
    pub followed : IsFollowed k l address (ReplaysJoined k l) on.opened on.done it after (earlier ends on.errors on.before)
    pub holds : LeadsFilesOver m d l old path on.closes.files followed.does.left (fault_in_call followed.does.end)
    pub made : HasNoMeta (file_state on.conn).now → AreMadeOver on.closes.files followed.does.left (fault_in_call followed.does.end)

  -- the log was not taken up: the history that the files held stays
  pub record IsLeftBehind : Type 0 where
    pub files : Files F
    pub used : IsUsed m d old new path true files
    pub holds : (h : History) → LeadsFilesTo m d old path files h h (Stays h)

  -- what was done ended with the status Success, and closing the store then failed
  abbrev pub EndsReplayedUnclosed : Type 0
  EndsReplayedUnclosed = (on : IsReplayedShared m d k l founding address old new path ends) × (on.before ≡ Success) × (ends.status ≡ Failed)

  -- the lines of a log that begins with this founding, over the store at a path
  abbrev pub ReplaysSharedWhollyTo : Type 0
  ReplaysSharedWhollyTo =
      ((failure : Failure) × IsUnconnected m d old new path failure × IsFailure failure ends)
      ⊎ EndsReplayedUnclosed ⊎ IsUnreplayed m d old new path ends ⊎ IsLeftBehind ⊎ IsReplayedWholly

-- replay STORE --log URL; no store is used if the log has no founding
abbrev pub ReplaysSharedWholly : {H F I K : Type 0} → host.Ghosts H F I → disk.Ghosts F → logs.Ghosts H K → log.Ghosts K → H → H → List ℕ → List ℕ → Ends → Type 0
ReplaysSharedWholly {H} m d k l old new path address ends =
    HasNoFoundingAt k l address old new ends
    ⊎ ((founding : Founding) × (read : H) × IsFoundedAt k l address old read founding × ReplaysSharedWhollyTo m d k l founding address read new path ends)
