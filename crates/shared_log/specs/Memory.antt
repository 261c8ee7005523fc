-- The lines of a log in memory.
use Rattle.std.specs.Prelude.{ℕ, List}
use Rattle.shared_log.specs.declared.memory.MemoryLog.{MemoryLog}

-- the lines that it has decided
abbrev pub decided_lines : MemoryLog → List (List ℕ)
decided_lines log = log.lines
