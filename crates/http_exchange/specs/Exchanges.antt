-- The calls of one exchange of a request and its answer.
use Rattle.std.specs.Prelude.{◌≡◌, ℕ, ◌+◌, ◌<◌, ◌≤◌, ◌⊎◌, Bool, true, false, List, [], ◌++◌, length, drop}
use Rattle.http_exchange.specs.declared.connection.Connection.{Ghosts}
use Rattle.http_exchange.specs.declared.fault.ExchangeFault.{ExchangeFault}
use Rattle.http_exchange.specs.declared.fault.ExchangeFault.TheVariants as faults
use Rattle.http_exchange.specs.Answers.{IsAnswer, IsAwaited, NeverAnswers}

-- the longest that connecting, a write or a read waits: fifteen seconds, since etcd waits ten for a quorum
abbrev pub call_time : ℕ
call_time = 15_000_000_000

-- nothing is read of a message once it has so many bytes: 32 MiB and 64 KiB
abbrev pub most_message : ℕ
most_message = 33_619_968

-- so many bytes from the front of these were written, by some calls
pub data HasWritten {C : Type 0} (g : Ghosts C) (first : C) (whole : List ℕ) : C → ℕ → Type 0 where
  none_written : HasWritten g first whole first 0
  more_written : (middle last : C) (count n : ℕ) → HasWritten g first whole middle count → g.writes middle last (drop count whole) n → 0 < n → HasWritten g first whole last (count + n)

-- more is read where an answer is awaited, and the message is not too long yet
abbrev pub IsReadOn : List ℕ → Type 0
IsReadOn bytes = IsAwaited bytes × (length bytes < most_message)

-- these bytes were read, by some calls, each made only while an answer was awaited behind the bytes before it
pub data HasRead {C : Type 0} (g : Ghosts C) (first : C) : C → List ℕ → Type 0 where
  none_read : HasRead g first first []
  more_read : (middle last : C) (bytes piece : List ℕ) (room : ℕ) → HasRead g first middle bytes → IsReadOn bytes → g.reads middle last room piece → 0 < length piece → HasRead g first last (bytes ++ piece)

module _ {C : Type 0} (g : Ghosts C) where
  -- a connection that is kept was looked at, and it can be used or not; or none is kept, and none can be used
  abbrev pub LooksAtKept : Bool → C → C → Bool → Type 0
  LooksAtKept true old new usable = g.rests old new usable
  LooksAtKept false old new usable = (new ≡ old) × (usable ≡ false)

  -- a request can be written: on the connection that is kept, or on a new one
  abbrev pub IsReady : Bool → C → C → Type 0
  IsReady kept old new = LooksAtKept kept old new true ⊎ ((middle : C) × LooksAtKept kept old middle false × g.opens middle new call_time)

  -- no connection that is kept can be used, and none was made
  abbrev pub IsUnready : Bool → C → C → Type 0
  IsUnready kept old new = (middle : C) × LooksAtKept kept old middle false × g.fails middle new

  -- the request was written whole
  pub record IsSentWhole (kept : Bool) (old : C) (request : List ℕ) (new : C) : Type 0 where
    pub ready : C
    pub is_ready : IsReady kept old ready
    pub written : HasWritten g ready request new (length request)

  -- Where these bytes came, nothing more is read for this fault: a read failed or found the end, where one was to be made;
  -- or no answer can come; or one is awaited, and the message is too long; or memory ran out, maybe after one more read.
  abbrev pub StopsReading : List ℕ → C → C → ExchangeFault → Type 0
  StopsReading bytes old new faults.Open = ⊥
  StopsReading bytes old new faults.Write = ⊥
  StopsReading bytes old new faults.Read = IsReadOn bytes × g.fails old new
  StopsReading bytes old new faults.Ended = IsReadOn bytes × ((room : ℕ) × (0 < room) × g.reads old new room [])
  StopsReading bytes old new faults.BadMessage = NeverAnswers bytes × (new ≡ old)
  StopsReading bytes old new faults.TooLong = IsAwaited bytes × ((most_message ≤ length bytes) × (new ≡ old))
  StopsReading bytes old new faults.NoMemory = (new ≡ old) ⊎ (IsReadOn bytes × ((room : ℕ) × (piece : List ℕ) × g.reads old new room piece))

  -- one call of `read` gave some bytes, which came behind those before, where the message was not too long yet
  pub record ReadsMore (old new : C) (before after : List ℕ) : Type 0 where
    pub room : ℕ
    pub piece : List ℕ
    pub grown : after ≡ before ++ piece
    pub some : 0 < length piece
    pub reads : g.reads old new room piece
    pub short : length before < most_message

  -- some bytes were read, and then nothing more for this fault
  pub record ReadsNoAnswer (first last : C) (fault : ExchangeFault) : Type 0 where
    pub middle : C
    pub bytes : List ℕ
    pub read : HasRead g first middle bytes
    pub stops : StopsReading bytes middle last fault

  -- an answer was read
  pub record ReadsAnswer (first last : C) (status : ℕ) (body : List ℕ) (keeps : Bool) : Type 0 where
    pub bytes : List ℕ
    pub read : HasRead g first last bytes
    pub answer : IsAnswer bytes status body keeps

  -- some of the bytes were written, but not all, and the next call failed or wrote none
  pub record WriteFails (first : C) (whole : List ℕ) (last : C) : Type 0 where
    pub middle : C
    pub count : ℕ
    pub written : HasWritten g first whole middle count
    pub short : count < length whole
    pub stops : g.fails middle last ⊎ g.writes middle last (drop count whole) 0

  -- the request was written whole, and its answer read
  pub record GetsAnswer (kept : Bool) (old : C) (request : List ℕ) (new : C) (status : ℕ) (body : List ℕ) (keeps : Bool) : Type 0 where
    pub sent : C
    pub is_sent : IsSentWhole kept old request sent
    pub is_read : ReadsAnswer sent new status body keeps

  -- why a request got no answer
  abbrev pub GetsNoAnswer : Bool → C → List ℕ → C → ExchangeFault → Type 0
  GetsNoAnswer kept old request new faults.Open = IsUnready kept old new
  GetsNoAnswer kept old request new faults.Write = (ready : C) × IsReady kept old ready × WriteFails ready request new
  GetsNoAnswer kept old request new faults.Read = (sent : C) × IsSentWhole kept old request sent × ReadsNoAnswer sent new faults.Read
  GetsNoAnswer kept old request new faults.Ended = (sent : C) × IsSentWhole kept old request sent × ReadsNoAnswer sent new faults.Ended
  GetsNoAnswer kept old request new faults.BadMessage = (sent : C) × IsSentWhole kept old request sent × ReadsNoAnswer sent new faults.BadMessage
  GetsNoAnswer kept old request new faults.TooLong = (sent : C) × IsSentWhole kept old request sent × ReadsNoAnswer sent new faults.TooLong
  GetsNoAnswer kept old request new faults.NoMemory = (sent : C) × IsSentWhole kept old request sent × ReadsNoAnswer sent new faults.NoMemory

  -- a connection that is not kept is closed
  abbrev pub IsKeptOrClosed : Bool → C → C → Type 0
  IsKeptOrClosed true old new = new ≡ old
  IsKeptOrClosed false old new = g.closes old new

  -- The request was sent once, and this is its answer. The connection is then kept, or closed.
  pub record IsExchange (kept : Bool) (old : C) (request : List ℕ) (new : C) (status : ℕ) (body : List ℕ) (keeps : Bool) : Type 0 where
    pub last : C
    pub answered : GetsAnswer kept old request last status body keeps
    pub left : IsKeptOrClosed keeps last new

  -- the request got no answer, for this fault, and the connection is closed
  pub record ExchangeFails (kept : Bool) (old : C) (request : List ℕ) (new : C) (fault : ExchangeFault) : Type 0 where
    pub last : C
    pub failed : GetsNoAnswer kept old request last fault
    pub left : g.closes last new
