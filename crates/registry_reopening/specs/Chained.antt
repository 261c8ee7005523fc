-- What runs with a crash after each leave of the files if no registry is opened.
use Rattle.std.specs.Prelude.{ℕ, ◌+◌, List, take}
use Rattle.sqlite_disk.specs.declared.Disk.{Ghosts}
use Rattle.sqlite_store.specs.declared.store.FileStore.{FileStore}
use Rattle.sqlite.specs.Files.{over_files}
use Rattle.sqlite.specs.State.{HasCleanDisk}
use Rattle.registry_rules.specs.declared.order.Request.{Request}
use Rattle.registry_rules.specs.History.{History}
use Rattle.registry_rules.specs.Run.{after}
use Rattle.registry_tables.specs.Rows.{newest}
use Rattle.registry_store.specs.declared.registry.Registry.{Registry}
use Rattle.registry_store.specs.Promise.{IsNew, Represents, state_of}
use Rattle.registry_reopening.specs.declared.opening.Unopened.{Unopened}
use Rattle.registry_reopening.specs.declared.runs.RunEnd.{RunEnd}
use Rattle.registry_reopening.specs.Opening.{StillHolds}
use Rattle.registry_reopening.specs.Recovery.{LeadsThrough}

module _ {D : Type 0} (g : Ghosts D) where
  -- What a run over these requests and a crash left holds the history after some of the first of them, or after one more; or it is
  -- what the engine left where it failed.
  abbrev pub LeavesFilesAfterRun : Registry (FileStore D g) over_files → List Request → Unopened D → Type 0
  LeavesFilesAfterRun first rs left = (h : History) → Represents first h → (n : ℕ) × StillHolds g newest (after h (take n rs)) (after h (take (n + 1) rs)) left

  -- After the earlier requests and a crash a registry was opened, as `run_and_crash` says. This is what a run over it and the later
  -- requests left.
  pub record LeavesFilesAfterSecond (first : Registry (FileStore D g) over_files) (earlier later : List Request) (left : Unopened D) : Type 0 where
    pub run : RunEnd
    pub middle : Registry (FileStore D g) over_files
    pub is_new : IsNew middle
    pub leads : (h : History) → Represents first h → HasCleanDisk (state_of middle) → ∥ ((x : History) × LeadsThrough h earlier run.replies.items run.fault x × Represents middle x) ∥₁
    pub leaves : LeavesFilesAfterRun middle later left
