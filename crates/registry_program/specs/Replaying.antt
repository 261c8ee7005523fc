-- What the replay of a record asks of the machine.
use Rattle.std.specs.Prelude.{◌≡◌, ◌≢◌, ◌⊎◌, ℕ, true, false, List, codes, Option, Some, None, Result, Ok, Err}
use Rattle.std.specs.Str.{bytes_eq}
use Rattle.sqlite_disk.specs.declared.Disk as disk
use Rattle.sqlite_store.specs.declared.store.FileStore.{FileStore}
use Rattle.sqlite.specs.Files.{over_files}
use Rattle.sqlite.specs.Held.{Held}
use Rattle.sqlite.specs.Store as store
use Rattle.byte_streams.specs.declared.streams.Source as source
use Rattle.registry_rules.specs.declared.founding.Founding.{Founding}
use Rattle.registry_store.specs.declared.registry.Registry.{Registry}
use Rattle.registry_commands.specs.declared.following.ReplayStop.{ReplayStop}
use Rattle.registry_commands.specs.declared.following.ReplayStop.TheVariants as stop
use Rattle.registry_commands.specs.declared.messages.Failure.{Failure}
use Rattle.registry_commands.specs.declared.messages.Failure.TheVariants.{File}
use Rattle.registry_commands.specs.declared.status.ExitStatus.{ExitStatus}
use Rattle.registry_commands.specs.declared.unread.Unread.{Unread}
use Rattle.registry_commands.specs.Ends.{Ends, Sunk}
use Rattle.registry_commands.specs.RecordLines.{ahead}
use Rattle.registry_commands.specs.Replayed.{Begins, HasAllLines, HasReadBlank, IsReplayed, IsReplayedOn, connection_left}
use Rattle.registry_commands.specs.Stops.{TellsStop}
use Rattle.registry_program.specs.declared.host.Host as host
use Rattle.registry_program.specs.Outputs.{IsFailure, earlier}
use Rattle.registry_program.specs.Stores.{Closes, IsConnected, IsMissed, IsRunOver, IsUnconnected, TheRegistry}

-- the most bytes of the file of a record: as many as a file may have
abbrev pub most_record : ℕ
most_record = 18446744073709551615

module _ {R : Type 0} (r : source.Ghosts R) where
  -- the lines of the record that were to come were replayed over a registry, and the output took nothing
  abbrev pub ReplaysLines : {H S : Type 0} {g : store.Ghosts S} → R → R → Unread → H → H → Registry S g → Registry S g → Ends → Type 0
  ReplaysLines source source_new begun old new it after ends =
      (new ≡ old) × (ends.out.new ≡ ends.out.old) × (ended : Unread)
      × IsReplayed None (ahead (r.remaining source) begun) (ahead (r.remaining source_new) ended) ended begun.lines (r.failures source) (r.failures source_new) it after ends.errors ends.status

module _ {H F I : Type 0} (m : host.Ghosts H F I) (d : disk.Ghosts F) where
  module _ {R : Type 0} (r : source.Ghosts R) where
    -- over the registry of the store at a path, which must exist; or that could not be opened, and nothing was read
    abbrev pub ReplaysOver : R → R → Unread → H → H → List ℕ → Ends → Type 0
    ReplaysOver source source_new begun old new path ends =
        ((failure : Failure) × IsMissed m d old new path failure × IsFailure failure ends × (source_new ≡ source)) ⊎ IsRunOver m d old new path ends (ReplaysLines r source source_new begun)

    -- the store at a path was opened, or made; a registry was founded on it or opened; the lines that were to come after this
    -- founding were replayed; and it was closed
    pub record IsReplayedIn (founding : Founding) (source source_new : R) (begun : Unread) (old new : H) (path : List ℕ) (ends : Ends) : Type 0 where
      pub opened : H
      pub conn : Held (FileStore F d)
      pub connected : IsConnected m d old opened path conn
      pub left : Result (TheRegistry m d) (Held (FileStore F d))
      pub errors : Sunk
      pub before : ExitStatus
      pub ended : Unread
      pub replays : IsReplayedOn over_files founding (ahead (r.remaining source) begun) (ahead (r.remaining source_new) ended) ended begun.lines (r.failures source) (r.failures source_new)
          conn left (earlier ends errors before).errors before
      pub silent : ends.out.new ≡ ends.out.old
      pub closes : Closes m d opened new (connection_left over_files left) errors ends.errors.new before ends.status

    abbrev pub ReplaysIn : Founding → R → R → Unread → H → H → List ℕ → Ends → Type 0
    ReplaysIn founding source source_new begun old new path ends =
        ((failure : Failure) × IsUnconnected m d old new path failure × IsFailure failure ends × (source_new ≡ source)) ⊎ IsReplayedIn founding source source_new begun old new path ends

    -- by what the record begins with: no store is opened if that is refused or could not be read
    abbrev pub BeginsReplay : Result (Option Founding) ReplayStop → R → R → Unread → H → H → List ℕ → Ends → Type 0
    BeginsReplay (Ok (Some founding)) source source_new begun old new path ends = ReplaysIn founding source source_new begun old new path ends
    BeginsReplay (Ok None) source source_new begun old new path ends = ReplaysOver source source_new begun old new path ends
    BeginsReplay (Err why) source source_new begun old new path ends = (new ≡ old) × (source_new ≡ source) × (ends.out.new ≡ ends.out.old) × TellsStop (Err why) ends.errors ends.status

    -- The beginning of the record was read from this source, and then the store was used. What was read and not yet passed is then this.
    pub record ReplaysFrom (source source_new : R) (old new : H) (path : List ℕ) (ends : Ends) : Type 0 where
      pub middle : R
      pub begun : Unread
      pub first : Result (Option Founding) ReplayStop
      pub begins : Begins (r.remaining source) (ahead (r.remaining middle) begun) 0 begun.lines (r.failures source) (r.failures middle) first
      pub kept : first ≢ Err (stop.Failure File) → r.failures middle ≡ r.failures source
      pub waits : first ≡ Err (stop.Failure File) → HasAllLines 0 (r.remaining source) begun ⊎ HasReadBlank (r.remaining source) (ahead (r.remaining middle) begun) begun
      pub goes_on : BeginsReplay first middle source_new begun old new path ends

  -- replay STORE RECORD: the record is the standard input if it is called `-`, else the file at this path, which is opened before
  -- the store
  pub record ReplaysRecord {R : Type 0} (s : source.Ghosts I) (r : source.Ghosts R) (input input_new : R) (old new : H) (path file : List ℕ) (ends : Ends) : Type 0 where
    pub standard : bytes_eq file (codes "-") ≡ true → ReplaysFrom r input input_new old new path ends
    pub named : bytes_eq file (codes "-") ≡ false → (input_new ≡ input)
        × (((read : H) × (source : I) × (source_new : I) × m.reads old read file most_record source × ReplaysFrom s source source_new read new path ends)
        ⊎ ((failure : Failure) × m.lacks old new file most_record failure × IsFailure failure ends))
