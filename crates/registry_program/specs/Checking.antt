-- The command that checks a store.
use Rattle.std.specs.Prelude.{◌≡◌, ℕ, List}
use Rattle.sqlite_disk.specs.declared.Disk as disk
use Rattle.sqlite.specs.Store as store
use Rattle.registry_store.specs.declared.registry.Registry.{Registry}
use Rattle.registry_commands.specs.Checks.{IsCompared}
use Rattle.registry_commands.specs.Ends.{Ends, effect}
use Rattle.registry_program.specs.declared.host.Host as host
use Rattle.registry_program.specs.Stores.{Runs}

-- the rows of a registry are compared with those that its record makes
abbrev pub ChecksRows : {H S : Type 0} {g : store.Ghosts S} → H → H → Registry S g → Registry S g → Ends → Type 0
ChecksRows old new it after ends = (new ≡ old) × IsCompared (effect it after ends)

module _ {H F I : Type 0} (m : host.Ghosts H F I) (d : disk.Ghosts F) where
  -- check STORE
  abbrev pub ChecksStore : H → H → List ℕ → Ends → Type 0
  ChecksStore old new path ends = Runs m d old new path ends ChecksRows
