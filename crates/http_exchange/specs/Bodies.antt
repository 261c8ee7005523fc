-- How far a body was read.
use Rattle.std.specs.Prelude.{◌≡◌, ◌≢◌, ℕ, ◌+◌, ◌-◌, ◌≤◌, List, [], ◌++◌, length, drop}
use Rattle.http1.specs.declared.decode.Decoder.{Decoder}
use Rattle.http1.specs.declared.decode.Decoder.TheVariants.{Length, Chunked, UntilClose}
use Rattle.http1.specs.declared.chunked.ChunkedDecoder.{ChunkedDecoder}
use Rattle.http1.specs.Body.{Body}
use Rattle.http1.specs.ChunkedDecoder.{HasNotFailed, run, run_result}
use Rattle.http1.specs.Decoder.{decoder_for, Completes, with_front}
use Rattle.http_exchange.specs.declared.start.Start.{Start}
use Rattle.http_exchange.specs.Heads.{HasAnswerHead, limits}
use Rattle.http_exchange.specs.Exchanges.{most_message}

-- from the first decoder on these bytes were taken, and gave these bytes; where they are of chunks, none is malformed
abbrev pub HasDecoded : Decoder → Decoder → List ℕ → List ℕ → Type 0
HasDecoded (Length left) now taken got = (n : ℕ) × (now ≡ Length n)
HasDecoded (Chunked chunks most) now taken got = (next : ChunkedDecoder) × (now ≡ Chunked next most) × (run chunks taken ≡ run_result next got []) × HasNotFailed next
HasDecoded UntilClose now taken got = now ≡ UntilClose

-- From the first decoder on the whole was read up to what is left, and gave these bytes: what completes the one completes
-- the other, whatever follows.
pub record Goes (first now : Decoder) (whole left got : List ℕ) : Type 0 where
  pub bounded : now ≢ UntilClose
  pub taken : List ℕ
  pub split : whole ≡ taken ++ left
  pub has_taken : HasDecoded first now taken got
  pub back : (more : List ℕ) (body : Body) (rest : List ℕ) → Completes now (left ++ more) body rest → Completes first (whole ++ more) (with_front got body) rest
  pub forth : (more : List ℕ) (body : Body) (rest : List ℕ) → Completes first (whole ++ more) body rest → (tail : Body) × (body ≡ with_front got tail) × Completes now (left ++ more) tail rest

-- the decoder of the body behind this head
abbrev pub first_decoder : Start → Decoder
first_decoder start = decoder_for limits start.framing

-- the body behind the head at the front of the bytes was read up to this place, and gave these bytes
pub record IsBodyAt (bytes : List ℕ) (start : Start) (now : Decoder) (at : ℕ) (got : List ℕ) : Type 0 where
  pub head : HasAnswerHead bytes start
  pub goes : Goes (first_decoder start) now (drop start.len bytes) (drop at bytes) got
  pub within : at ≤ length bytes
  pub few : length bytes ≤ most_message

-- how many bytes can still be read and decoded
abbrev pub bytes_left : List ℕ → ℕ → ℕ
bytes_left bytes at = (most_message - length bytes) + (most_message - at)
