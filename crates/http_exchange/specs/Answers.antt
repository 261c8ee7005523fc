-- Answers in HTTP/1.1.
use Rattle.std.specs.Prelude.{◌≡◌, ℕ, ◌≤◌, ◌<◌, ◌⊎◌, ◌==◌, ◌&&◌, Bool, List, ◌++◌, length, drop}
use Rattle.httparse.specs.Grammar.{Field, HasNoResponse, MayBecomeResponse, MayBecomeSection}
use Rattle.http1.specs.declared.framing.Framing.TheVariants.{Chunked}
use Rattle.http1.specs.Body.{body_of, ReadsBody}
use Rattle.http1.specs.ChunkedBody.{Chunks, ReadsChunks}
use Rattle.http_exchange.specs.declared.start.Start.{Start}
use Rattle.http_exchange.specs.Heads.{HasAnswerHead, limits, most_answer_fields, most_answer_head}

-- The bytes begin with an answer: this is its status, this its body, and it is so that another request may be sent after
-- it: the connection stays open, and no byte came behind the answer.
pub record IsAnswer (bytes : List ℕ) (status : ℕ) (body : List ℕ) (keeps : Bool) : Type 0 where
  pub start : Start
  pub head : HasAnswerHead bytes start
  pub trailers : List Field
  pub rest : List ℕ
  pub reads : ReadsBody limits start.framing (drop start.len bytes) (body_of body trailers) rest
  pub few : length trailers ≤ most_answer_fields
  pub status_is : status ≡ start.status
  pub keeps_is : keeps ≡ (start.stays && (length rest == 0))

-- the bytes do not begin with an answer
pub record HasNoAnswer (bytes : List ℕ) : Type 0 where
  pub none : (status : ℕ) (body : List ℕ) (keeps : Bool) → IsAnswer bytes status body keeps → ⊥

-- no bytes can follow that make an answer of them
pub record NeverAnswers (bytes : List ℕ) : Type 0 where
  pub never : (more : List ℕ) (status : ℕ) (body : List ℕ) (keeps : Bool) → IsAnswer (bytes ++ more) status body keeps → ⊥

-- some bytes can follow that make an answer of them
abbrev pub MayAnswer : List ℕ → Type 0
MayAnswer bytes = (more : List ℕ) × (status : ℕ) × (body : List ℕ) × (keeps : Bool) × IsAnswer (bytes ++ more) status body keeps

-- the bytes are the beginning of a head, and fewer than a head may have
pub record AwaitsHead (bytes : List ℕ) : Type 0 where
  pub none : HasNoResponse bytes
  pub begun : MayBecomeResponse bytes
  pub short : length bytes < most_answer_head

-- the chunks of the body are whole, and behind them is the beginning of its fields, of fewer bytes than these may have
pub record AwaitsFields (bytes : List ℕ) : Type 0 where
  pub start : Start
  pub head : HasAnswerHead bytes start
  pub chunked : start.framing ≡ Chunked
  pub chunks : Chunks
  pub fields : List ℕ
  pub reads : ReadsChunks limits.max_extensions_len (drop start.len bytes) chunks fields
  pub begun : MayBecomeSection fields
  pub short : length fields < limits.max_trailers_len

-- There is no answer yet, and one is awaited: its head has begun, or some bytes can follow that make one, or the fields
-- behind its chunks have begun.
pub record IsAwaited (bytes : List ℕ) : Type 0 where
  pub none : HasNoAnswer bytes
  pub wanted : AwaitsHead bytes ⊎ MayAnswer bytes ⊎ AwaitsFields bytes

-- the bytes that come have one answer
abbrev pub SaysOneThing : Type 0
SaysOneThing =
    (bytes body other : List ℕ) (status code : ℕ) (keeps stays : Bool) → IsAnswer bytes status body keeps → IsAnswer bytes code other stays
    → (status ≡ code) × (body ≡ other) × (keeps ≡ stays)
