-- What the opening of a store or of its registry finds in files, and what it leaves of them if it fails.
use Rattle.std.specs.Prelude.{◌≡◌, ◌⊎◌, ⊤, ℕ, Bool, true, false}
use Rattle.sqlite_disk.specs.declared.Disk.{Ghosts}
use Rattle.sqlite_disk.specs.declared.Files.{Files}
use Rattle.sqlite_store.specs.declared.store.FileStore.{FileStore}
use Rattle.sqlite.specs.Closing.{files_left}
use Rattle.sqlite.specs.FileStore.{view}
use Rattle.sqlite.specs.Files.{Finds, HoldsDatabase, IsBlankAs, IsCleanLeft, IsOpened, LeavesFiles, file_state, image_of, over_files}
use Rattle.sqlite.specs.Held.{Held}
use Rattle.sqlite.specs.Recovery.{Image}
use Rattle.sqlite.specs.State.{HasCleanDisk, Survives}
use Rattle.sqlite.specs.Tree.{Trees}
use Rattle.sqlite.specs.WalReads.{AreClean}
use Rattle.sqlite.specs.declared.file.Leftover.{Leftover}
use Rattle.table_laws.specs.Inside.{CommitsNothing}
use Rattle.registry_rules.specs.History.{History}
use Rattle.registry_rules.specs.Run.{Legal}
use Rattle.registry_tables.specs.Known.{IsKnown}
use Rattle.registry_tables.specs.Raising.{CommitsLater, IsNamedOlder}
use Rattle.registry_tables.specs.Rows.{Rows}
use Rattle.registry_store.specs.declared.registry.Registry.{Registry}
use Rattle.registry_store.specs.Promise.{IsNew, Represents, state_of}
use Rattle.registry_store.specs.Files.{AreClosed, FilesHoldEither, HoldEither, IsEither}
use Rattle.registry_commands.specs.declared.messages.Failure.{Failure}
use Rattle.registry_commands.specs.declared.messages.Failure.TheVariants.{File, Foreign, Memory, Store}
use Rattle.registry_commands.specs.Failures.{IsOfOpening, IsOfStore}

-- a failure to open the files of a store: File only if it might not be made
abbrev pub IsOfFiles : Bool → Failure → Type 0
IsOfFiles may_make Store = ⊤
IsOfFiles may_make Memory = ⊤
IsOfFiles may_make File = may_make ≡ false
IsOfFiles may_make _ = ⊥

-- files that read like this hold no legal history, in any schema
abbrev pub HoldsNoHistory : Image → Type 0
HoldsNoHistory image = (version : ℕ) (db : Trees) (h : History) → HoldsDatabase image db → Legal h → ¬ Rows version db h

module _ {D : Type 0} (g : Ghosts D) where
  -- if the database file is empty, or an opening left only a first page of it, the new database has checksums
  abbrev pub HasSumsIfNew : Files D → Held (FileStore D g) → Type 0
  HasSumsIfNew files conn = IsBlankAs true (image_of g files) → (view conn.store).has_sums ≡ true

  -- over clean disks the connection is open, and shows the database that the files hold; a new one has checksums
  abbrev pub IsConnectedTo : Files D → Held (FileStore D g) → Type 0
  IsConnectedTo files conn = HasCleanDisk (file_state conn) → IsOpened conn × Finds files conn × HasSumsIfNew files conn

  -- if the files are clean, they hold one of these histories, in this schema or a later one
  abbrev pub Hold : ℕ → Files D → History → History → Type 0
  Hold from files h next = AreClean g files.log files.db → FilesHoldEither from (image_of g files) h next

  -- The registry is the one that these files hold: where they hold one of two legal histories, in any schema, it represents
  -- that one. Over a clean disk their tables had the names of a schema, and `meta` said its version. Nothing was committed unless
  -- that is an older one, and then only the same history in that schema or a later one.
  pub record OpensFiles (files : Files D) (it : Registry (FileStore D g) over_files) : Type 0 where
    pub is_new : IsNew it
    pub honest : HasCleanDisk (state_of it) → AreClean g files.log files.db
    pub represents : (from : ℕ) (h next : History) → Legal h → Legal next → Hold from files h next
        → HasCleanDisk (state_of it) → ∥ ((x : History) × IsEither h next x × Represents it x) ∥₁
    pub conn : Held (FileStore D g)
    pub connected : IsConnectedTo files conn
    pub known : HasCleanDisk (state_of it) → IsKnown (file_state conn).now
    pub survives : Survives (file_state conn) (state_of it) (CommitsLater (file_state conn))
    pub untouched : IsNamedOlder (file_state conn) ⊎ CommitsNothing (file_state conn) (state_of it)

  -- what an opening of the store that failed left of its files
  abbrev pub IsLeftUnopened : Files D → Files D → Type 0
  IsLeftUnopened files left = (rest : Leftover D g) × ((left.log, left.db) ≡ files_left rest) × (IsCleanLeft rest → LeavesFiles files rest)

  -- What an opening of the registry that failed left of the files of its store. Where they held one of two legal histories, in
  -- any schema, they hold it, in that schema or a later one, as they read now and after any crash. Nothing is committed unless
  -- the tables have the names of an older schema.
  pub record IsLeftUnread (files left : Files D) : Type 0 where
    pub conn : Held (FileStore D g)
    pub connected : IsConnectedTo files conn
    pub last : Held (FileStore D g)
    pub survives : Survives (file_state conn) (file_state last) (CommitsLater (file_state conn))
    pub untouched : IsNamedOlder (file_state conn) ⊎ CommitsNothing (file_state conn) (file_state last)
    pub closed : AreClosed last left
    pub holds : (from : ℕ) (h next : History) → Legal h → Legal next → Hold from files h next → AreClean g left.log left.db → HoldEither g from left h next

  -- the opening failed for this: if that is Foreign and the files that are left are clean, they held no legal history before
  abbrev pub HeldNoneIfForeign : Failure → Files D → Files D → Type 0
  HeldNoneIfForeign failure files left = failure ≡ Foreign → AreClean g left.log left.db → HoldsNoHistory (image_of g files)

  -- What an opening that failed for this left of the files: the store could not be opened, and this is Store or Memory; or its
  -- registry could not, and this may be Foreign too.
  abbrev pub AreLeft : Failure → Files D → Files D → Type 0
  AreLeft failure files left = (IsOfStore failure × IsLeftUnopened files left) ⊎ (IsOfOpening failure × IsLeftUnread files left)
