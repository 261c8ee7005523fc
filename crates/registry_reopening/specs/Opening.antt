-- What the opening of a registry finds in files, and what it leaves of them if it fails.
use Rattle.std.specs.Prelude.{◌≡◌, ◌⊎◌, ⊤, ℕ}
use Rattle.sqlite_disk.specs.declared.Disk.{Ghosts}
use Rattle.sqlite_disk.specs.declared.Files.{Files}
use Rattle.sqlite_store.specs.declared.store.FileStore.{FileStore}
use Rattle.sqlite.specs.Closing.{files_left}
use Rattle.sqlite.specs.Files.{Finds, IsCleanLeft, IsOpened, LeavesFiles, file_state, image_of, over_files}
use Rattle.sqlite.specs.Held.{Held, IsNew as IsFresh}
use Rattle.sqlite.specs.State.{HasCleanDisk, Survives}
use Rattle.sqlite.specs.WalReads.{AreClean}
use Rattle.sqlite.specs.declared.file.Leftover.{Leftover}
use Rattle.table_laws.specs.Inside.{CommitsNothing}
use Rattle.sqlite.specs.Store.{Ghosts as StoreGhosts}
use Rattle.registry_rules.specs.History.{History}
use Rattle.registry_rules.specs.Run.{Legal}
use Rattle.registry_tables.specs.Known.{IsKnown}
use Rattle.registry_tables.specs.Raising.{CommitsLater, IsNamedOlder}
use Rattle.registry_tables.specs.Rows.{newest}
use Rattle.registry_store.specs.declared.registry.Registry.{Registry}
use Rattle.registry_store.specs.Promise.{IsNew, Leaves, LeavesFrom, state_of}
use Rattle.registry_store.specs.Files.{AreClosed, FilesHoldEither, HoldEither, IsEither}
use Rattle.registry_reopening.specs.declared.opening.Unopened.{Unopened}
use Rattle.registry_reopening.specs.declared.opening.Unopened.TheVariants as unopened

-- The registry was just opened, and if its disk is clean, so was that of the first one.
abbrev pub ComesAfter : {S : Type 0} {g : StoreGhosts S} → Registry S g → Registry S g → Type 0
ComesAfter first it = IsNew it × (HasCleanDisk (state_of it) → HasCleanDisk (state_of first))

module _ {D : Type 0} (g : Ghosts D) where
  -- The connection was just opened. Over clean disks it is open, and shows the database that these files hold.
  pub record ConnectsTo (files : Files D) (conn : Held (FileStore D g)) : Type 0 where
    pub fresh : IsFresh conn
    pub shows : HasCleanDisk (file_state conn) → IsOpened conn × Finds files conn

  -- The registry was opened on a connection to these files: it is not poisoned, has met no rows of no history, and does not limit
  -- the steps of a query. Over a clean disk the tables had the names of a schema, and, if each row has values of its table, `meta`
  -- said its version. Nothing was committed unless these are the names of an older schema, and then only the same history in that
  -- schema or a later one.
  pub record OpensIn (files : Files D) (it : Registry (FileStore D g) over_files) : Type 0 where
    pub is_new : IsNew it
    pub honest : HasCleanDisk (state_of it) → AreClean g files.log files.db
    pub conn : Held (FileStore D g)
    pub connects : ConnectsTo files conn
    pub known : HasCleanDisk (state_of it) → IsKnown (file_state conn).now
    pub survives : Survives (file_state conn) (state_of it) (CommitsLater (file_state conn))
    pub untouched : IsNamedOlder (file_state conn) ⊎ CommitsNothing (file_state conn) (state_of it)

  -- what the engine left of these files, if it could not open the store in them
  abbrev pub LeavesUnopened : Files D → Files D → Type 0
  LeavesUnopened files left = (rest : Leftover D g) × ((left.log, left.db) ≡ files_left rest) × (IsCleanLeft rest → LeavesFiles files rest)

  -- What was left of these files, if the store was opened and its registry was not. Nothing was committed unless the tables have
  -- the names of an older schema, and then only the same history in that schema or a later one.
  pub record LeavesUnread (files left : Files D) : Type 0 where
    pub conn : Held (FileStore D g)
    pub connects : ConnectsTo files conn
    pub last : Held (FileStore D g)
    pub survives : Survives (file_state conn) (file_state last) (CommitsLater (file_state conn))
    pub untouched : IsNamedOlder (file_state conn) ⊎ CommitsNothing (file_state conn) (file_state last)
    pub closed : AreClosed last left

  -- No registry was opened in these files: they are as they were, or the engine could not open the store, or its registry could not
  -- be opened.
  abbrev pub LeavesFilesOf : Files D → Unopened D → Type 0
  LeavesFilesOf files (unopened.Store left) = (left ≡ files) ⊎ LeavesUnopened files left
  LeavesFilesOf files (unopened.Registry left) = (left ≡ files) ⊎ LeavesUnread files left

  -- the engine could not open the store in files that held one of these histories, in this schema or a later one, and left this
  abbrev pub HoldUnopened : ℕ → History → History → Files D → Type 0
  HoldUnopened from h next left = (files : Files D) × (AreClean g files.log files.db → FilesHoldEither from (image_of g files) h next) × LeavesUnopened files left

  -- the engine could not close a store whose every state after a crash held one of these histories, and left this
  abbrev pub HoldUnclosed : ℕ → History → History → Files D → Type 0
  HoldUnclosed from h next left =
      (conn : Held (FileStore D g)) × (HasCleanDisk (file_state conn) → LeavesFrom from (file_state conn) (IsEither h next)) × AreClosed conn left

  -- What is left holds one of the two histories, in this schema or a later one, also after a crash; or it is what the engine left
  -- where it failed.
  abbrev pub StillHolds : ℕ → History → History → Unopened D → Type 0
  StillHolds from h next (unopened.Store left) = HoldUnopened from h next left ⊎ HoldUnclosed from h next left
  StillHolds from h next (unopened.Registry left) = AreClean g left.log left.db → HoldEither g from left h next

  -- if what is left is clean, so were these files, unless the engine failed
  abbrev pub ReturnsClean : Files D → Unopened D → Type 0
  ReturnsClean files (unopened.Store left) = ⊤
  ReturnsClean files (unopened.Registry left) = AreClean g left.log left.db → AreClean g files.log files.db

  -- What is left holds what a crash of this registry left, also after another crash; or it is what the engine left where it failed.
  abbrev pub LeavesFilesAfter : Registry (FileStore D g) over_files → Unopened D → Type 0
  LeavesFilesAfter last left = (h next : History) → Legal h → Legal next → (HasCleanDisk (state_of last) → Leaves newest (state_of last) (IsEither h next))
      → StillHolds newest h next left
