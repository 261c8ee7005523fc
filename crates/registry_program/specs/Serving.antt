-- What serving a store over HTTP asks of the machine.
use Rattle.std.specs.Prelude.{◌≡◌, ◌⊎◌, ◌≤◌, ℕ, true, false, List, length, codes, Option, Some, None, IfSome, Result, Ok, Err, OnOk}
use Rattle.sqlite_disk.specs.declared.Disk as disk
use Rattle.sqlite.specs.State.{HasCleanDisk}
use Rattle.sqlite.specs.Store as store
use Rattle.byte_streams.specs.declared.streams.Sink as sink
use Rattle.byte_streams.specs.declared.streams.Source as source
use Rattle.registry_rules.specs.History.{History}
use Rattle.registry_tables.specs.Rows.{newest}
use Rattle.registry_store.specs.declared.registry.Registry.{Registry}
use Rattle.registry_store.specs.Promise.{Endures, Leaves, NotesForeign, Represents, is_poisoned, state_of}
use Rattle.registry_commands.specs.declared.status.ExitStatus.TheVariants.{Success, Failed}
use Rattle.registry_commands.specs.Ends.{Ends}
use Rattle.registry_commands.specs.Failures.{Prints}
use Rattle.registry_commands.specs.Messages.{failure_of}
use Rattle.registry_desk.specs.declared.server.Connections as connections
use Rattle.registry_desk.specs.declared.server.ServerStop.{ServerStop}
use Rattle.registry_desk.specs.declared.server.ServerStop.TheVariants as stops
use Rattle.registry_desk.specs.Server.{AreTurnedAway, EndsConnections, EndsServing, HaveVisited, IsLeftAfter, IsToldAt, IsVisit, Visit, fault_in_server}
use Rattle.registry_program.specs.declared.host.Host as host
use Rattle.registry_program.specs.Outputs.{IsFailure}
use Rattle.registry_program.specs.Stores.{Runs}

-- the connections that a server takes at most: so many, or as many as come
abbrev pub limit_of : Option ℕ → ℕ
limit_of (Some count) = count
limit_of None = 18446744073709551615

-- the message if the port failed
abbrev pub socket_line : List ℕ
socket_line = codes "fault: socket\n"

-- nothing was written but that the port failed
abbrev pub IsSocketFailure : Ends → Type 0
IsSocketFailure ends = (ends.out.new ≡ ends.out.old) × (ends.status ≡ Failed) × Prints ends.errors socket_line

-- how a server ends
abbrev pub TellsEnd : Result (Unit {0}) ServerStop → Ends → Type 0
TellsEnd (Ok done) ends = (ends.out.new ≡ ends.out.old) × (ends.status ≡ Success) × (ends.errors.new ≡ ends.errors.old)
TellsEnd (Err stops.Connections) ends = IsSocketFailure ends
TellsEnd (Err (stops.Registry fault)) ends = IsFailure (failure_of fault) ends

module _ {H F I R W : Type 0} (m : host.Ghosts H F I) (c : connections.Ghosts H R W) (r : source.Ghosts R) (w : sink.Ghosts W) where
  -- connections of the machine were served, at most so many, as `serve_all` says
  pub record AreServed {S : Type 0} {g : store.Ghosts S} (old new : H) (it after : Registry S g) (limit : ℕ) (end : Result (Unit {0}) ServerStop) : Type 0 where
    pub served : (visits : List Visit) × (middle : H)
        × HaveVisited c.opens c.closes r.remaining r.failures w.contents w.failures old middle visits
        × EndsConnections c.fails middle new end
        × (length visits ≤ limit) × OnOk end (length visits ≡ limit)
        × ((h : History) → Represents it h → HasCleanDisk (state_of after) → EndsServing after h visits (fault_in_server end) × Leaves newest (state_of after) (IsLeftAfter h visits))
        × (is_poisoned it ≡ true → AreTurnedAway visits (fault_in_server end) × (after ≡ it))
    -- Whatever the store holds: a fault was told at the last of some connections that came and were served in this time; that they are
    -- those of `served` is not said. After none the registry is not poisoned and no call of it found the rows of no history, if none
    -- had before.
    pub told : is_poisoned it ≡ false → IfSome (fault_in_server end) (λ fault. (visits : List Visit) × (middle : H) × (last : Visit)
        × HaveVisited c.opens c.closes r.remaining r.failures w.contents w.failures old middle visits
        × IsVisit c.opens c.closes r.remaining r.failures w.contents w.failures middle new last × IsToldAt last (Some fault))
    pub goes_on : is_poisoned it ≡ false → fault_in_server end ≡ None → is_poisoned after ≡ false
    pub notes : NotesForeign it after (fault_in_server end)
    pub endures : Endures (state_of it) (state_of after)

  -- the machine listened on this port, and connections to it were served
  pub record IsServedAt {S : Type 0} {g : store.Ghosts S} (port limit : ℕ) (old new : H) (it after : Registry S g) (ends : Ends) : Type 0 where
    pub listening : H
    pub listens : m.listens old listening port
    pub end : Result (Unit {0}) ServerStop
    pub served : AreServed listening new it after limit end
    pub tells : TellsEnd end ends

  -- that, or it could not listen
  abbrev pub ServesOn : {S : Type 0} {g : store.Ghosts S} → ℕ → ℕ → H → H → Registry S g → Registry S g → Ends → Type 0
  ServesOn port limit old new it after ends = IsServedAt port limit old new it after ends ⊎ (m.is_refused old new port × (after ≡ it) × IsSocketFailure ends)

-- serve STORE
abbrev pub Serves : {H F I R W : Type 0} → host.Ghosts H F I → disk.Ghosts F → connections.Ghosts H R W → source.Ghosts R → sink.Ghosts W → H → H → List ℕ → ℕ → ℕ → Ends → Type 0
Serves m d c r w old new path port limit ends = Runs m d old new path ends (ServesOn m c r w port limit)
