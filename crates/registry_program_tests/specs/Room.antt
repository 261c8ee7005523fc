-- What the machine in memory holds.
use Rattle.std.specs.Prelude.{[], Option, Some, None}
use Rattle.sqlite_disk.specs.declared.Files.{Files}
use Rattle.sqlite_disk.specs.declared.memory.Memory.{Memory}
use Rattle.sqlite_disk.specs.Memory.{memory_bytes}
use Rattle.sqlite.specs.Recovery.{Image}

-- the files of its store, which are empty before they are made
abbrev pub image_in : Option (Files Memory) → Image
image_in None = record { log = []; db = [] }
image_in (Some files) = record { log = memory_bytes files.log; db = memory_bytes files.db }
