-- What the replay of a log asks of the machine: a store acts on the lines of the log, and is made if there is none.
use Rattle.std.specs.Prelude.{◌≡◌, ◌⊎◌, ℕ, List, Result, Ok, Err, IfErr, OnOk}
use Rattle.sqlite_disk.specs.declared.Disk as disk
use Rattle.sqlite_store.specs.declared.store.FileStore.{FileStore}
use Rattle.sqlite.specs.Files.{over_files}
use Rattle.sqlite.specs.Held.{Held}
use Rattle.sqlite.specs.State.{HasCleanDisk}
use Rattle.sqlite.specs.Store as store
use Rattle.registry_rules.specs.History.{History}
use Rattle.registry_rules.specs.declared.founding.Founding.{Founding}
use Rattle.registry_store.specs.Promise.{Endures, NotesForeign, state_of}
use Rattle.registry_store.specs.declared.registry.Registry.{Registry}
use Rattle.registry_commands.specs.declared.messages.Failure.{Failure}
use Rattle.registry_commands.specs.declared.status.ExitStatus.{ExitStatus}
use Rattle.registry_commands.specs.Ends.{Ends, Sunk}
use Rattle.registry_commands.specs.Replayed.{IsFoundOrOpen, IsLeftFound, connection_left}
use Rattle.shared_log.specs.Calls.{AtSomeInstant, KeepsLines, LogLines}
use Rattle.shared_log.specs.declared.log.Log as log
use Rattle.shared_registry.specs.Asks.{AppendsNothing, IsLogAsked}
use Rattle.shared_registry.specs.Cursors.{log_of}
use Rattle.shared_registry.specs.Follows.{Follows, HasFollowed, IsLeft}
use Rattle.shared_registry.specs.Founded.{BeginsWithFounding, HasNoFounding}
use Rattle.shared_registry.specs.Lines.{fault_in_call}
use Rattle.shared_registry.specs.declared.cursor.Cursor.{Cursor}
use Rattle.shared_registry.specs.declared.stop.ShareStop.{ShareStop}
use Rattle.registry_program.specs.declared.host.Host as host
use Rattle.registry_program.specs.declared.logs.Logs as logs
use Rattle.registry_program.specs.declared.logs.NoLog.{NoLog}
use Rattle.registry_program.specs.Outputs.{IsFailure, earlier}
use Rattle.registry_program.specs.Sharing.{FollowsAt, IsSilent, TellsNoLog, TellsShareStop}
use Rattle.registry_program.specs.Stores.{Closes, IsConnected, IsUnconnected, TheRegistry}

module _ {S L : Type 0} {g : store.Ghosts S} (l : log.Ghosts L) (it after : Registry S g) (cursor left : Cursor L) (end : Result (Unit {0}) ShareStop) where
  -- a registry acted on the lines of its log, as `follow` says
  pub record HasReplayedLog : Type 0 where
    pub whole : (lines : L → LogLines) → KeepsLines l lines → (h : History) → Follows l lines it cursor h → HasCleanDisk (state_of after) → OnOk end (HasFollowed l lines cursor after left h)
    pub stopped : (lines : L → LogLines) → KeepsLines l lines → (h : History) → Follows l lines it cursor h → HasCleanDisk (state_of after) → IfErr end (IsLeft l lines cursor after left h)
    pub asks : IsLogAsked l AppendsNothing cursor.log left.log
    pub notes : NotesForeign it after (fault_in_call end)
    pub endures : Endures (state_of it) (state_of after)

module _ {H K : Type 0} (k : logs.Ghosts H K) (l : log.Ghosts K) where
  -- how a command ends that only asked something of a log
  abbrev pub TellsFollowed : H → H → K → Result (Unit {0}) ShareStop → Ends → Type 0
  TellsFollowed old new log (Ok done) ends = k.closes old new log × IsSilent ends
  TellsFollowed old new log (Err stop) ends = k.leaves old new log stop × TellsShareStop stop ends

  -- the registry, which follows the log, acted on its lines, and the command ended so
  pub record ReplaysJoined {S : Type 0} {g : store.Ghosts S} (old new : H) (it after : Registry S g) (cursor : Cursor K) (ends : Ends) : Type 0 where
    pub left : Cursor K
    pub end : Result (Unit {0}) ShareStop
    pub replays : HasReplayedLog l it after cursor left end
    pub tells : TellsFollowed old new (log_of left) end ends

  -- the founding with whose line the log at this address begins was read
  pub record IsFoundedAt (address : List ℕ) (old new : H) (founding : Founding) : Type 0 where
    pub found : H
    pub log : K
    pub last : K
    pub finds : k.finds old found address log
    pub begins : (lines : K → LogLines) → KeepsLines l lines → AtSomeInstant (lines log) (lines last) (BeginsWithFounding founding)
    pub asks : IsLogAsked l AppendsNothing log last
    pub closes : k.closes found new last

  -- there is none, for this reason
  pub record IsUnfoundedAt (address : List ℕ) (old new : H) (ends : Ends) : Type 0 where
    pub found : H
    pub log : K
    pub last : K
    pub finds : k.finds old found address log
    pub stop : ShareStop
    pub why : (lines : K → LogLines) → KeepsLines l lines → HasNoFounding l lines log last stop
    pub asks : IsLogAsked l AppendsNothing log last
    pub leaves : k.leaves found new last stop
    pub tells : TellsShareStop stop ends

  -- that, or there is no log for the address
  abbrev pub HasNoFoundingAt : List ℕ → H → H → Ends → Type 0
  HasNoFoundingAt address old new ends = IsUnfoundedAt address old new ends ⊎ ((why : NoLog) × k.rejects old new address why × TellsNoLog why ends)

module _ {H F I K : Type 0} (m : host.Ghosts H F I) (d : disk.Ghosts F) (k : logs.Ghosts H K) (l : log.Ghosts K) where
  -- A registry was founded on the connection, or the one that is there opened, and it acted on the lines of the log at an address; or
  -- neither could be done.
  abbrev pub ReplaysSharedOn : Founding → List ℕ → H → H → Held (FileStore F d) → Result (TheRegistry m d) (Held (FileStore F d)) → Ends → Type 0
  ReplaysSharedOn founding address old new conn (Ok after) ends =
      (it : TheRegistry m d) × IsFoundOrOpen over_files conn founding it × FollowsAt k l address (ReplaysJoined k l) old new it after ends
  ReplaysSharedOn founding address old new conn (Err last) ends =
      (failure : Failure) × IsLeftFound over_files conn founding failure last × (new ≡ old) × IsFailure failure ends

  -- the store at a path was opened, or made, that was done with the connection to it, and it was closed
  pub record IsReplayedShared (founding : Founding) (address : List ℕ) (old new : H) (path : List ℕ) (ends : Ends) : Type 0 where
    pub opened : H
    pub conn : Held (FileStore F d)
    pub connected : IsConnected m d old opened path conn
    pub done : H
    pub left : Result (TheRegistry m d) (Held (FileStore F d))
    pub errors : Sunk
    pub before : ExitStatus
    pub replays : ReplaysSharedOn founding address opened done conn left (earlier ends errors before)
    pub closes : Closes m d done new (connection_left over_files left) errors ends.errors.new before ends.status

  -- that, or the store could not be opened
  abbrev pub ReplaysSharedTo : Founding → List ℕ → H → H → List ℕ → Ends → Type 0
  ReplaysSharedTo founding address old new path ends =
      ((failure : Failure) × IsUnconnected m d old new path failure × IsFailure failure ends) ⊎ IsReplayedShared founding address old new path ends

  -- replay STORE --log URL: no store is opened if the log has no founding
  abbrev pub ReplaysShared : H → H → List ℕ → List ℕ → Ends → Type 0
  ReplaysShared old new path address ends =
      HasNoFoundingAt k l address old new ends
      ⊎ ((founding : Founding) × (read : H) × IsFoundedAt k l address old read founding × ReplaysSharedTo founding address read new path ends)
