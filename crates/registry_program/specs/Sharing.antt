-- What the commands over a log that several machines share ask of the machine.
use Rattle.std.specs.Prelude.{◌≡◌, ◌≢◌, ◌⊎◌, ◌≤◌, ℕ, true, List, All, length, codes, Result, Ok, Err, IfOk, IfErr, OnOk}
use Rattle.sqlite_disk.specs.declared.Disk as disk
use Rattle.sqlite.specs.State.{HasCleanDisk}
use Rattle.sqlite.specs.Store as store
use Rattle.byte_streams.specs.declared.streams.Sink as sink
use Rattle.byte_streams.specs.declared.streams.Source as source
use Rattle.registry_rules.specs.History.{History}
use Rattle.registry_laws.specs.Machines.{HasValidFields}
use Rattle.registry_store.specs.declared.fault.Fault.TheVariants as faults
use Rattle.registry_store.specs.declared.registry.Registry.{Registry}
use Rattle.registry_store.specs.Promise.{Endures, NotesForeign, Represents, is_poisoned, state_of}
use Rattle.registry_store.specs.Queries.{IsUntouched}
use Rattle.registry_commands.specs.declared.messages.Failure.TheVariants.{Memory}
use Rattle.registry_commands.specs.declared.status.ExitStatus.TheVariants.{Success, Failed, Rejected}
use Rattle.registry_commands.specs.Ends.{Ends}
use Rattle.registry_commands.specs.Failures.{Prints}
use Rattle.registry_commands.specs.Messages.{failure_of}
use Rattle.registry_desk.specs.declared.server.Connections as connections
use Rattle.registry_desk.specs.Server.{HaveVisited, Visit}
use Rattle.shared_log.specs.Calls.{KeepsLines, LogLines}
use Rattle.shared_log.specs.declared.fault.LogFault.TheVariants as log_faults
use Rattle.shared_log.specs.declared.log.Log as log
use Rattle.shared_registry.specs.Asks.{AppendsNothing, AppendsRecord, IsLogAsked, IsAskedFor}
use Rattle.shared_registry.specs.Cursors.{log_of}
use Rattle.shared_registry.specs.Follows.{Follows}
use Rattle.shared_registry.specs.Lines.{fault_in_call}
use Rattle.shared_registry.specs.Records.{IsUnshared, stop_in}
use Rattle.shared_registry.specs.declared.cursor.Cursor.{Cursor}
use Rattle.shared_registry.specs.declared.stop.ShareStop.{ShareStop}
use Rattle.shared_registry.specs.declared.stop.ShareStop.TheVariants as stops
use Rattle.shared_desk.specs.Asks.{AppendsOrdersIn}
use Rattle.shared_desk.specs.Refusals.{fault_behind_stop}
use Rattle.shared_desk.specs.Server as desk
use Rattle.shared_desk.specs.declared.server.SharedStop.{SharedStop}
use Rattle.shared_desk.specs.declared.server.SharedStop.TheVariants as ends
use Rattle.registry_program.specs.declared.host.Host as host
use Rattle.registry_program.specs.declared.logs.Logs as logs
use Rattle.registry_program.specs.declared.logs.NoLog.{NoLog}
use Rattle.registry_program.specs.declared.logs.NoLog.TheVariants as reasons
use Rattle.registry_program.specs.Outputs.{IsFailure}
use Rattle.registry_program.specs.Serving.{IsSocketFailure}
use Rattle.registry_program.specs.Stores.{Runs}

-- the message if the registry does not go on with its log
abbrev pub log_line : List ℕ
log_line = codes "fault: log\n"

-- the message if the address is that of no log
abbrev pub address_line : List ℕ
address_line = codes "bad word: log\n"

-- nothing was written but that the registry does not go on with its log
abbrev pub IsLogFailure : Ends → Type 0
IsLogFailure ends = (ends.out.new ≡ ends.out.old) × (ends.status ≡ Failed) × Prints ends.errors log_line

-- nothing was written but that the address is that of no log
abbrev pub IsBadAddress : Ends → Type 0
IsBadAddress ends = (ends.out.new ≡ ends.out.old) × (ends.status ≡ Rejected) × Prints ends.errors address_line

-- how a command ends without a log
abbrev pub TellsNoLog : NoLog → Ends → Type 0
TellsNoLog reasons.BadAddress ends = IsBadAddress ends
TellsNoLog reasons.NoMemory ends = IsFailure Memory ends

-- nothing was written, at the status Success
abbrev pub IsSilent : Ends → Type 0
IsSilent ends = (ends.out.new ≡ ends.out.old) × (ends.status ≡ Success) × (ends.errors.new ≡ ends.errors.old)

-- how a command ends that this stopped
abbrev pub TellsShareStop : ShareStop → Ends → Type 0
TellsShareStop (stops.Registry fault) ends = IsFailure (failure_of fault) ends
TellsShareStop stops.NoMemory ends = IsFailure Memory ends
TellsShareStop (stops.Log log_faults.NoMemory) ends = IsFailure Memory ends
TellsShareStop (stops.Log log_faults.NoQuorum) ends = IsLogFailure ends
TellsShareStop (stops.Log log_faults.Unreachable) ends = IsLogFailure ends
TellsShareStop (stops.Log log_faults.Refused) ends = IsLogFailure ends
TellsShareStop (stops.Log log_faults.BadAnswer) ends = IsLogFailure ends
TellsShareStop (stops.OtherRecord n) ends = IsLogFailure ends
TellsShareStop stops.Ahead ends = IsLogFailure ends
TellsShareStop stops.Empty ends = IsLogFailure ends
TellsShareStop stops.Full ends = IsLogFailure ends

module _ {S L : Type 0} {g : store.Ghosts S} (l : log.Ghosts L) (it after : Registry S g) (log : L) (end : Result (Cursor L) (ShareStop × L)) where
  -- the registry took up a log, or this stopped it, and nothing was committed
  pub record TakesUp : Type 0 where
    pub follows : (lines : L → LogLines) → KeepsLines l lines → (h : History) → Represents it h → HasValidFields h → HasCleanDisk (state_of after) → IfOk end (λ cursor. Follows l lines after cursor h)
    pub stopped : (lines : L → LogLines) → KeepsLines l lines → (h : History) → Represents it h → HasValidFields h → HasCleanDisk (state_of after) → IfErr end (λ left. IsUnshared l lines h log left.1 left.0)
    pub untouched : IsUntouched it after
    pub notes : NotesForeign it after (fault_in_call (stop_in end))
    pub when_poisoned : is_poisoned it ≡ true → stop_in end ≡ Err (stops.Registry faults.Poisoned)

module _ {H K : Type 0} (k : logs.Ghosts H K) where
  -- how a command ends that took up a log, and left it
  abbrev pub TellsShared : H → H → Result (Cursor K) (ShareStop × K) → Ends → Type 0
  TellsShared old new (Ok cursor) ends = k.closes old new (log_of cursor) × IsSilent ends
  TellsShared old new (Err left) ends = k.leaves old new left.1 left.0 × TellsShareStop left.0 ends

  -- how a server ends, and leaves its log
  abbrev pub TellsServed : H → H → K → Result (Unit {0}) SharedStop → Ends → Type 0
  TellsServed old new log (Ok done) ends = k.closes old new log × IsSilent ends
  TellsServed old new log (Err ends.Connections) ends = k.closes old new log × IsSocketFailure ends
  TellsServed old new log (Err (ends.Share stop)) ends = k.leaves old new log stop × TellsShareStop stop ends

  module _ (l : log.Ghosts K) where
    -- the record of the registry was put into the log at this address, as `share` says
    pub record IsSharedAt {S : Type 0} {g : store.Ghosts S} (address : List ℕ) (old new : H) (it after : Registry S g) (ends : Ends) : Type 0 where
      pub found : H
      pub log : K
      pub finds : k.finds old found address log
      pub end : Result (Cursor K) (ShareStop × K)
      pub shares : TakesUp l it after log end
      pub asks : (h : History) → Represents it h → HasValidFields h → HasCleanDisk (state_of after) → IsAskedFor l (AppendsRecord h) log end
      -- the log is given the lines that it lacks
      pub never_ahead : IfErr end (λ left. left.0 ≢ stops.Ahead)
      pub tells : TellsShared found new end ends

    -- that, or there is no log for the address
    abbrev pub SharesInto : {S : Type 0} {g : store.Ghosts S} → List ℕ → H → H → Registry S g → Registry S g → Ends → Type 0
    SharesInto address old new it after ends = IsSharedAt address old new it after ends ⊎ ((why : NoLog) × k.rejects old new address why × (after ≡ it) × TellsNoLog why ends)

    -- the log at this address was taken up, as `join` says, or not
    pub record IsTakenUp {S : Type 0} {g : store.Ghosts S} (address : List ℕ) (old found : H) (it after : Registry S g) (end : Result (Cursor K) (ShareStop × K)) : Type 0 where
      pub log : K
      pub finds : k.finds old found address log
      pub joins : TakesUp l it after log end
      pub asks : IsAskedFor l AppendsNothing log end

    -- There is no log for the address; or it was not taken up, and was left.
    abbrev pub IsNotFollowed : {S : Type 0} {g : store.Ghosts S} → List ℕ → H → H → Registry S g → Registry S g → Ends → Type 0
    IsNotFollowed address old new it after ends =
        ((why : NoLog) × k.rejects old new address why × (after ≡ it) × TellsNoLog why ends)
        ⊎ ((found : H) × (stop : ShareStop) × (log : K) × IsTakenUp address old found it after (Err (stop, log)) × k.leaves found new log stop × TellsShareStop stop ends)

    -- the log was taken up, and then this was done with the registry that follows it
    pub record IsFollowed {S : Type 0} {g : store.Ghosts S} (address : List ℕ) (Does : H → H → Registry S g → Registry S g → Cursor K → Ends → Type 0) (old new : H) (it after : Registry S g) (ends : Ends) : Type 0 where
      pub found : H
      pub middle : Registry S g
      pub cursor : Cursor K
      pub taken : IsTakenUp address old found it middle (Ok cursor)
      pub does : Does found new middle after cursor ends

    -- one or the other
    abbrev pub FollowsAt : {S : Type 0} {g : store.Ghosts S} → List ℕ → (H → H → Registry S g → Registry S g → Cursor K → Ends → Type 0) → H → H → Registry S g → Registry S g → Ends → Type 0
    FollowsAt address Does old new it after ends = IsNotFollowed address old new it after ends ⊎ IsFollowed address Does old new it after ends

module _ {H F I R W K : Type 0} (m : host.Ghosts H F I) (c : connections.Ghosts H R W) (r : source.Ghosts R) (w : sink.Ghosts W) (k : logs.Ghosts H K) (l : log.Ghosts K) where
  -- connections of the machine were served over a log, at most so many, as `serve_shared` says
  pub record AreServedOverLog {S : Type 0} {g : store.Ghosts S} (old new : H) (it after : Registry S g) (cursor cursor_new : Cursor K) (limit : ℕ) (end : Result (Unit {0}) SharedStop) : Type 0 where
    pub served : (visits : List Visit) × (middle : H)
        × HaveVisited c.opens c.closes r.remaining r.failures w.contents w.failures old middle visits
        × desk.EndsConnectionsOverLog c.fails middle new end
        × (length visits ≤ limit) × OnOk end (length visits ≡ limit)
        × desk.IsToldLast visits (desk.stop_in_server end)
        × ((lines : K → LogLines) → KeepsLines l lines → (h : History) → Follows l lines it cursor h → HasCleanDisk (state_of after) → desk.EndsOver l lines cursor after cursor_new h visits (desk.stop_in_server end))
        × (is_poisoned it ≡ true → All desk.IsTurnedAwayOverLogAt visits × (after ≡ it) × (cursor_new ≡ cursor))
        × ((lines : K → LogLines) → KeepsLines l lines → (h : History) → Follows l lines it cursor h → HasCleanDisk (state_of after) → IsLogAsked l (AppendsOrdersIn (lines cursor_new.log) h visits) cursor.log cursor_new.log)
    pub notes : NotesForeign it after (fault_behind_stop (desk.stop_in_server end))
    pub endures : Endures (state_of it) (state_of after)

  -- the machine listened on this port, and connections to it were served
  pub record IsServedOver {S : Type 0} {g : store.Ghosts S} (port limit : ℕ) (old new : H) (it after : Registry S g) (cursor : Cursor K) (ends : Ends) : Type 0 where
    pub listening : H
    pub listens : m.listens old listening port
    pub done : H
    pub left : Cursor K
    pub end : Result (Unit {0}) SharedStop
    pub served : AreServedOverLog listening done it after cursor left limit end
    pub tells : TellsServed k done new (log_of left) end ends

  -- that, or it could not listen
  abbrev pub ServesJoined : {S : Type 0} {g : store.Ghosts S} → ℕ → ℕ → H → H → Registry S g → Registry S g → Cursor K → Ends → Type 0
  ServesJoined port limit old new it after cursor ends =
      IsServedOver port limit old new it after cursor ends
      ⊎ ((refused : H) × m.is_refused old refused port × k.closes refused new (log_of cursor) × (after ≡ it) × IsSocketFailure ends)

  -- serve STORE over the log at an address
  abbrev pub ServesOver : {S : Type 0} {g : store.Ghosts S} → ℕ → ℕ → List ℕ → H → H → Registry S g → Registry S g → Ends → Type 0
  ServesOver port limit address old new it after ends = FollowsAt k l address (ServesJoined port limit) old new it after ends

-- share STORE
abbrev pub Shares : {H F I K : Type 0} → host.Ghosts H F I → disk.Ghosts F → logs.Ghosts H K → log.Ghosts K → H → H → List ℕ → List ℕ → Ends → Type 0
Shares m d k l old new path address ends = Runs m d old new path ends (SharesInto k l address)

-- serve STORE over a log
abbrev pub ServesShared : {H F I R W K : Type 0} → host.Ghosts H F I → disk.Ghosts F → connections.Ghosts H R W → source.Ghosts R → sink.Ghosts W → logs.Ghosts H K → log.Ghosts K → H → H → List ℕ → ℕ → ℕ → List ℕ → Ends → Type 0
ServesShared m d c r w k l old new path port limit address ends = Runs m d old new path ends (ServesOver m c r w k l port limit address)
