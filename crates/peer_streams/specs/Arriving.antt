-- The time limits of a connection that has come. Times are in nanoseconds.
use Rattle.std.specs.Prelude.{ℕ, ◌⊎◌}

-- the longest that a read of a message or a write of a response waits: ten seconds
abbrev pub peer_time : ℕ
peer_time = 10_000_000_000

-- the limit of reads was set, and then that of writes
abbrev pub IsLimited : {A : Type 0} → (A → A → ℕ → Type 0) → (A → A → ℕ → Type 0) → A → A → Type 0
IsLimited {A} limits_reads limits_writes old new = (between : A) × limits_reads old between peer_time × limits_writes between new peer_time

-- A call failed at once; or the limit of reads was set, and then a call failed. Which call it was is not said.
abbrev pub FailsToLimit : {A : Type 0} → (A → A → ℕ → Type 0) → (A → A → Type 0) → A → A → Type 0
FailsToLimit {A} limits_reads fails old new = fails old new ⊎ ((between : A) × limits_reads old between peer_time × fails between new)
