-- What the next opening finds, whatever a crash leaves of the files.
use Rattle.std.specs.Prelude.{◌≡◌, ℕ, IsTrue, List, length, take, Option, None}
use Rattle.sqlite_disk.specs.declared.Disk.{Ghosts}
use Rattle.sqlite_disk.specs.declared.Files.{Files}
use Rattle.sqlite.specs.Store.{Ghosts as StoreGhosts}
use Rattle.sqlite.specs.Files.{image_of}
use Rattle.sqlite.specs.WalFiles.{outcomes}
use Rattle.registry_rules.specs.declared.order.Request.{Request}
use Rattle.registry_rules.specs.declared.verdict.Reply.{Reply}
use Rattle.registry_rules.specs.History.{History}
use Rattle.registry_rules.specs.Run.{replies_to}
use Rattle.registry_store.specs.declared.fault.Fault.{Fault}
use Rattle.registry_store.specs.declared.registry.Registry.{Registry}
use Rattle.registry_store.specs.Promise.{Represents}
use Rattle.registry_store.specs.Run.{IsAfterOrNext}

-- a crash of the first two files may leave what the other two now hold
abbrev pub MayLeave : {D : Type 0} → Ghosts D → Files D → Files D → Type 0
MayLeave g files found = outcomes g files.log files.db (image_of g found)

-- the registry represents the history after the first n requests, or after n + 1
abbrev pub RepresentsPrefix : {S : Type 0} {g : StoreGhosts S} → Registry S g → History → List Request → ℕ → Type 0
RepresentsPrefix it h rs n = ∥ ((x : History) × IsAfterOrNext h rs n x × Represents it x) ∥₁

-- A run over the history gave these replies, to all requests unless it ended with a fault. Then a crash left x: the history after
-- the answered requests, or after one more.
pub record LeadsThrough (h : History) (rs : List Request) (replies : List Reply) (fault : Option Fault) (x : History) : Type 0 where
  pub front : replies ≡ take (length replies) (replies_to h rs)
  pub all : fault ≡ None → replies ≡ replies_to h rs
  pub next : IsAfterOrNext h rs (length replies) x

-- each disk of this kind always reads back what was written to it
abbrev pub KeepsItsWord : {D : Type 0} → Ghosts D → Type 0
KeepsItsWord {D} g = (file : D) → IsTrue (g.is_clean file)
