-- Bytes that wait for a sink, so that it is called once for many small writes.
use Rattle.std.specs.Prelude.{◌≡◌, ℕ, List, ◌++◌, Option, Result, Ok, Err}
use Rattle.std.specs.Io.KnownBytes.{Appends}
use Rattle.byte_streams.specs.Streams.{AppendsPrefix, FailsOnce}

-- the bytes that the sink took and those that wait now are, in order, those that waited before and these
pub record Gains (old : Option (List ℕ)) (waited : List ℕ) (new : Option (List ℕ)) (waits : List ℕ) (bytes : List ℕ) : Type 0 where
  pub taken : List ℕ
  pub appended : Appends old new taken
  pub whole : taken ++ waits ≡ waited ++ bytes

-- on success, each byte was taken or waits; or the sink took a prefix of what waited and these bytes, and one call failed
abbrev pub Gathers : {A E : Type 0} → Option (List ℕ) → List ℕ → Option (List ℕ) → List ℕ → ℕ → ℕ → Result A E → List ℕ → Type 0
Gathers old waited new waits failures failures_new (Ok done) bytes = Gains old waited new waits bytes × (failures_new ≡ failures)
Gathers old waited new waits failures failures_new (Err e) bytes = AppendsPrefix old new (waited ++ bytes) × FailsOnce failures failures_new
