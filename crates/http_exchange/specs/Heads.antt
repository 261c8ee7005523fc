-- The head of an answer.
use Rattle.std.specs.Prelude.{◌≡◌, ℕ, ◌≤◌, ◌==◌, ◌&&◌, nat_le, not, Bool, List, length, drop, Option, Some, None, Result, Ok, Err, if◌then◌else◌}
use Rattle.httparse.specs.Grammar.{ResponseHead, print_response, ReadsResponse, status_code}
use Rattle.http1.specs.declared.conn.Limits.{Limits}
use Rattle.http1.specs.declared.fields.KnownFields.{KnownFields}
use Rattle.http1.specs.declared.framing.Framing.{Framing}
use Rattle.http1.specs.declared.framing.Framing.TheVariants.{NoBody, Length, Chunked, UntilClose}
use Rattle.http1.specs.declared.framing.FramingError.{FramingError}
use Rattle.http1.specs.declared.framing.MethodKind.TheVariants.{Other}
use Rattle.http1.specs.Framing.{response_framing}
use Rattle.http1.specs.Message.{known_of}
use Rattle.http_exchange.specs.declared.start.Start.{Start}

-- the most bytes of a head: 16 KiB
abbrev pub most_answer_head : ℕ
most_answer_head = 16384

-- the most fields of a head, and of a trailer
abbrev pub most_answer_fields : ℕ
most_answer_fields = 64

-- the limits of a message
abbrev pub limits : Limits
limits = record { max_head_len = 16384; max_extensions_len = 16384; max_trailers_len = 16384 }

-- the framing, unless the body ends where the connection does
abbrev pub if_bounded : Result Framing FramingError → Option Framing
if_bounded (Ok NoBody) = Some NoBody
if_bounded (Ok (Length n)) = Some (Length n)
if_bounded (Ok Chunked) = Some Chunked
if_bounded (Ok UntilClose) = None
if_bounded (Err e) = None

-- how the body of an answer with this status, of HTTP/1.`minor`, ends
abbrev pub framing_of : ℕ → ℕ → KnownFields → Option Framing
framing_of status minor k = if nat_le 200 status then if_bounded (response_framing Other status minor k) else None

-- the connection stays open after a message of HTTP/1.`minor` with these fields
abbrev pub may_stay : ℕ → KnownFields → Bool
may_stay minor k = (minor == 1) && not k.close

-- the bytes begin with a head that is accepted, and these are its length and what it says
pub record HasAnswerHead (bytes : List ℕ) (start : Start) : Type 0 where
  pub head : ResponseHead
  pub reads : ReadsResponse bytes head (drop start.len bytes)
  pub within : start.len ≤ length bytes
  pub len_is : start.len ≡ length (print_response head)
  pub short : start.len ≤ most_answer_head
  pub few : length head.fields ≤ most_answer_fields
  pub status : start.status ≡ status_code head
  pub framed : framing_of (status_code head) head.minor (known_of head.fields) ≡ Some start.framing
  pub stays : start.stays ≡ may_stay head.minor (known_of head.fields)
