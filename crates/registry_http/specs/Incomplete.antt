-- A message of which more bytes must come.
use Rattle.std.specs.Prelude.{◌≡◌, ◌<◌, ◌⊎◌, ℕ, List, [], length, Option, Result, Ok, Err}
use Rattle.std.specs.Io.KnownBytes.{Consumes}
use Rattle.httparse.specs.Grammar.{RequestHead, HasNoRequest, MayBecomeRequest}
use Rattle.byte_streams.specs.Streams.{FailsOnce}
use Rattle.registry_http.specs.Heads.{HasHead}
use Rattle.registry_http.specs.Limits.{most_head}
use Rattle.registry_http.specs.Reading.{head_reading}
use Rattle.registry_http.specs.declared.refusal.HttpRefusal.{HttpRefusal}
use Rattle.registry_http.specs.declared.reading.Head.{Head}
use Rattle.registry_http.specs.declared.reading.Head.TheVariants as heads

-- fewer than 8,192 bytes came, without a head, and others can follow that complete one, of any number of fields
abbrev pub HasOpenHead : List ℕ → Type 0
HasOpenHead bytes = (length bytes < most_head) × HasNoRequest bytes × MayBecomeRequest bytes

-- the head is that of an order, and fewer bytes follow it than its body has
abbrev pub HasOpenBody : Result Head HttpRefusal → List ℕ → Type 0
HasOpenBody (Err refusal) rest = ⊥
HasOpenBody (Ok (heads.Query query)) rest = ⊥
HasOpenBody (Ok (heads.Order order)) rest = length rest < order.length

-- no byte came yet, or the head is not complete, or the body is not
abbrev pub IsIncomplete : List ℕ → Type 0
IsIncomplete bytes = (bytes ≡ []) ⊎ HasOpenHead bytes ⊎ ((head : RequestHead) × (rest : List ℕ) × HasHead bytes head rest × HasOpenBody (head_reading head) rest)

-- One read failed, and this holds of the bytes that the source gave before. Any read may fail, so that one was the last. If
-- what holds is IsIncomplete, no read is made once a message is complete.
abbrev pub FailsAfter : Option (List ℕ) → Option (List ℕ) → ℕ → ℕ → (List ℕ → Type 0) → Type 0
FailsAfter old new failures failures_new Holds = FailsOnce failures failures_new × ((bytes : List ℕ) × Consumes old new bytes × Holds bytes)
