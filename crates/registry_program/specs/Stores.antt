-- How a command opens the store at a path of the machine, and how it closes it.
use Rattle.std.specs.Prelude.{◌≡◌, ◌≢◌, ◌⊎◌, ℕ, Bool, true, false, List}
use Rattle.sqlite_disk.specs.declared.Disk as disk
use Rattle.sqlite_disk.specs.declared.Files.{Files}
use Rattle.sqlite_store.specs.declared.store.FileStore.{FileStore}
use Rattle.sqlite.specs.Closing.{IsCopied}
use Rattle.sqlite.specs.Files.{file_state, image_of, over_files}
use Rattle.sqlite.specs.Held.{Held}
use Rattle.sqlite.specs.State.{HasCleanDisk}
use Rattle.sqlite.specs.WalReads.{AreClean}
use Rattle.registry_rules.specs.History.{History}
use Rattle.registry_store.specs.declared.registry.Registry.{Registry}
use Rattle.registry_store.specs.Promise.{LeavesFrom, connection_of}
use Rattle.registry_store.specs.Files.{AreClosed, HoldEither, IsEither, IsUncopied}
use Rattle.registry_commands.specs.declared.messages.Failure.{Failure}
use Rattle.registry_commands.specs.declared.status.ExitStatus.{ExitStatus}
use Rattle.registry_commands.specs.declared.status.ExitStatus.TheVariants.{Success, Failed}
use Rattle.registry_commands.specs.Ends.{Ends, Sunk}
use Rattle.registry_commands.specs.Failures.{IsOfClosing, IsOfStore, PrintsFailure}
use Rattle.registry_program.specs.declared.host.Host as host
use Rattle.registry_program.specs.Opening.{AreLeft, HeldNoneIfForeign, IsConnectedTo, IsLeftUnopened, IsOfFiles, OpensFiles}
use Rattle.registry_program.specs.Outputs.{IsFailure, earlier}

module _ {H F I : Type 0} (m : host.Ghosts H F I) (d : disk.Ghosts F) where
  abbrev pub TheRegistry : Type 0
  TheRegistry = Registry (FileStore F d) over_files

  -- these are the files of the store at a path, and hold what it held; the flag says whether it might be made
  pub record Opens (old new : H) (path : List ℕ) (may_make : Bool) (files : Files F) : Type 0 where
    pub opens : m.opens old new path may_make files
    pub found : image_of d files ≡ m.holds old path

  -- the files were opened, and then closed with nothing done, as this says
  pub record IsClosedUndone (old new : H) (path : List ℕ) (may_make : Bool) (Left : Files F → Files F → Type 0) : Type 0 where
    pub opened : H
    pub files : Files F
    pub opens : Opens old opened path may_make files
    pub left : Files F
    pub is_left : Left files left
    pub lets_go : m.lets_go opened new left

  -- the store at a path, which must exist, was opened, and this is the registry in its files
  pub record OpensRegistry (old new : H) (path : List ℕ) (it : TheRegistry) : Type 0 where
    pub files : Files F
    pub opens : Opens old new path false files
    pub opens_files : OpensFiles d files it

  -- It could not be opened: there is none, or its files hold no registry that can be read, and none at all if this is Foreign.
  abbrev pub IsMissed : H → H → List ℕ → Failure → Type 0
  IsMissed old new path failure =
      (m.misses old new path false failure × IsOfFiles false failure)
      ⊎ IsClosedUndone old new path false (λ files left. AreLeft d failure files left × HeldNoneIfForeign d failure files left)

  -- the store at a path was opened, or made, and this is the connection to it
  pub record IsConnected (old new : H) (path : List ℕ) (conn : Held (FileStore F d)) : Type 0 where
    pub files : Files F
    pub opens : Opens old new path true files
    pub connected : IsConnectedTo d files conn

  -- its files could not be opened, or are those of no store
  abbrev pub IsUnconnected : H → H → List ℕ → Failure → Type 0
  IsUnconnected old new path failure = (m.misses old new path true failure × IsOfFiles true failure) ⊎ (IsOfStore failure × IsClosedUndone old new path true (IsLeftUnopened d))

  -- How a store was closed after a command that ended with the first status: at Success its log was copied, or the error output
  -- says that this failed. Unless it failed, its files hold what the store held.
  pub record ClosesStore (conn : Held (FileStore F d)) (files : Files F) (errors errors_new : Sunk) (before status : ExitStatus) : Type 0 where
    pub kept : before ≢ Success → (status ≡ before) × (errors_new ≡ errors)
    pub well : before ≡ Success → ((status ≡ Success) × (errors_new ≡ errors)) ⊎ ((status ≡ Failed) × PrintsFailure (IsOfClosing (IsUncopied conn files)) (record { old = errors; new = errors_new }))
    pub closed : AreClosed conn files
    pub copied : before ≡ Success → status ≡ Success → AreClean d files.log files.db → IsCopied conn files
    pub holds : status ≡ before → (from : ℕ) (h next : History) → (HasCleanDisk (file_state conn) → LeavesFrom from (file_state conn) (IsEither h next))
        → AreClean d files.log files.db → HoldEither d from files h next

  -- its files were then closed
  pub record Closes (old new : H) (conn : Held (FileStore F d)) (errors errors_new : Sunk) (before status : ExitStatus) : Type 0 where
    pub files : Files F
    pub closed : ClosesStore conn files errors errors_new before status
    pub lets_go : m.lets_go old new files

  -- The registry of the store at a path was opened, this was done with it, and the store was closed.
  pub record IsRunOver (old new : H) (path : List ℕ) (ends : Ends) (Does : H → H → TheRegistry → TheRegistry → Ends → Type 0) : Type 0 where
    pub opened : H
    pub it : TheRegistry
    pub takes : OpensRegistry old opened path it
    pub done : H
    pub after : TheRegistry
    pub errors : Sunk
    pub before : ExitStatus
    pub does : Does opened done it after (earlier ends errors before)
    pub closes : Closes done new (connection_of after) errors ends.errors.new before ends.status

  -- that, or the registry could not be opened, and nothing was done
  abbrev pub Runs : H → H → List ℕ → Ends → (H → H → TheRegistry → TheRegistry → Ends → Type 0) → Type 0
  Runs old new path ends Does = ((failure : Failure) × IsMissed old new path failure × IsFailure failure ends) ⊎ IsRunOver old new path ends Does
