-- What a source gives, what a sink takes, and how failures are counted.
use Rattle.std.specs.Prelude.{◌≡◌, ℕ, ◌+◌, ◌-◌, ◌^◌, ◌<◌, ◌≤◌, min, List, ◌++◌, length, take, Option, Some, None, Result, Ok, Err, ⊤}
use Rattle.std.specs.Io.KnownBytes.{Consumes, Appends, Keeps, IsAtEnd}

-- the most bytes that are read of one input
abbrev pub most_bytes : ℕ
most_bytes = 4294967295

-- these may be all bytes that a source gives until its end: exactly the known ones, if they are known
abbrev pub MayGive : Option (List ℕ) → List ℕ → Type 0
MayGive None bytes = ⊤
MayGive (Some known) bytes = bytes ≡ known

-- the count of failures after one more; it stays at 2^64 - 1
abbrev pub one_more : ℕ → ℕ
one_more n = min (n + 1) (2 ^ 64 - 1)

-- exactly one call failed between these two counts of failures
abbrev pub FailsOnce : ℕ → ℕ → Type 0
FailsOnce old new = new ≡ one_more old

-- the source gave these n bytes, 0 only at its end or if there was no room; or it failed and gave none
abbrev pub Takes : {E : Type 0} → Option (List ℕ) → Option (List ℕ) → ℕ → ℕ → Result ℕ E → List ℕ → Type 0
Takes old new failures failures_new (Ok n) room =
    (n ≤ length room) × Consumes old new (take n room) × (n ≡ 0 → 0 < length room → IsAtEnd new) × (failures_new ≡ failures)
Takes old new failures failures_new (Err e) room = Keeps old new × (failures_new ≡ one_more failures)

-- the sink took the first n bytes, or it failed and took none; to take none of some bytes is a failure too
abbrev pub Puts : {E : Type 0} → Option (List ℕ) → Option (List ℕ) → ℕ → ℕ → Result ℕ E → List ℕ → Type 0
Puts old new failures failures_new (Ok n) bytes =
    (n ≤ length bytes) × Appends old new (take n bytes) × (n ≡ 0 → 0 < length bytes → failures_new ≡ one_more failures)
    × (0 < n → failures_new ≡ failures) × (length bytes ≡ 0 → failures_new ≡ failures)
Puts old new failures failures_new (Err e) bytes = Keeps old new × (failures_new ≡ one_more failures)

-- the sink took a prefix of these bytes
pub record AppendsPrefix (old new : Option (List ℕ)) (bytes : List ℕ) : Type 0 where
  pub front : List ℕ
  pub rest : List ℕ
  pub whole : bytes ≡ front ++ rest
  pub appended : Appends old new front

-- on success, the sink took all of these bytes; or it took a prefix of them, and then one call failed
abbrev pub Writes : {A E : Type 0} → Option (List ℕ) → Option (List ℕ) → ℕ → ℕ → Result A E → List ℕ → Type 0
Writes old new failures failures_new (Ok done) bytes = Appends old new bytes × (failures_new ≡ failures)
Writes old new failures failures_new (Err e) bytes = AppendsPrefix old new bytes × FailsOnce failures failures_new
