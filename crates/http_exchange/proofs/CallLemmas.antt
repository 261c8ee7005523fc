-- One call more, of those of an exchange.
use Rattle.std.proofs.Common.{◌≡◌, ℕ, ◌+◌, ◌<◌, Bool, true, false, List, ◌++◌, length, take, drop, inl, inr, sym, refl, subst}
use Rattle.http_exchange.specs.declared.connection.Connection.{Ghosts}
use Rattle.http_exchange.specs.declared.fault.ExchangeFault.{ExchangeFault}
use Rattle.http_exchange.specs.declared.fault.ExchangeFault.TheVariants as faults
use Rattle.http_exchange.specs.Answers.{IsAnswer, IsAwaited, NeverAnswers}
use Rattle.http_exchange.specs.Exchanges.{call_time, most_message, HasWritten, none_written, more_written, HasRead, more_read, LooksAtKept, IsReady, IsUnready, IsSentWhole, ReadsAnswer, ReadsNoAnswer, ReadsMore, WriteFails, StopsReading, GetsAnswer, IsExchange, ExchangeFails, GetsNoAnswer}

-- further bytes were read, where an answer was awaited
pub read_on : {C : Type 0} (g : Ghosts C) (first middle last : C) (before after : List ℕ) → HasRead g first middle before → IsAwaited before → ReadsMore g middle last before after → HasRead g first last after
read_on g first middle last before after read awaited more = subst (λ (t : List ℕ). HasRead g first last t) (sym more.grown) (more_read middle last before more.piece more.room read (awaited, more.short) more.reads more.some)

pub reads_more : {C : Type 0} (g : Ghosts C) (old new : C) (before after piece : List ℕ) (room : ℕ) → g.reads old new room piece → after ≡ before ++ piece → 0 < length piece → length before < most_message → ReadsMore g old new before after
reads_more g old new before after piece room reads grown some short = record { room = room; piece = piece; grown = grown; some = some; reads = reads; short = short }

pub reads_the_end : {C : Type 0} (g : Ghosts C) (old new : C) (before piece : List ℕ) (room n : ℕ) → IsAwaited before → length before < most_message → g.reads old new room (take n piece) → n ≡ 0 → 0 < room → StopsReading g before old new faults.Ended
reads_the_end g old new before piece room n awaited short reads none some = ((awaited, short), (room, some, subst (λ (k : ℕ). g.reads old new room (take k piece)) none reads))

pub reads_without_memory : {C : Type 0} (g : Ghosts C) (old new : C) (before piece : List ℕ) (room : ℕ) → IsAwaited before → length before < most_message → g.reads old new room piece → StopsReading g before old new faults.NoMemory
reads_without_memory g old new before piece room awaited short reads = inr ((awaited, short), (room, piece, reads))

pub memory_fails : {C : Type 0} (g : Ghosts C) (first last : C) (bytes : List ℕ) → HasRead g first last bytes → ReadsNoAnswer g first last faults.NoMemory
memory_fails g first last bytes read = record { middle = last; bytes = bytes; read = read; stops = inl refl }

pub is_read : {C : Type 0} (g : Ghosts C) (first last : C) (bytes body : List ℕ) (status : ℕ) (keeps : Bool) → HasRead g first last bytes → IsAnswer bytes status body keeps → ReadsAnswer g first last status body keeps
is_read g first last bytes body status keeps read answer = record { bytes = bytes; read = read; answer = answer }

pub written_none : {C : Type 0} (g : Ghosts C) (first : C) (whole : List ℕ) → HasWritten g first whole first 0
written_none g first whole = none_written

pub written_on : {C : Type 0} (g : Ghosts C) (first middle last : C) (whole rest : List ℕ) (count n : ℕ) → HasWritten g first whole middle count → rest ≡ drop count whole → g.writes middle last rest n → 0 < n → HasWritten g first whole last (count + n)
written_on g first middle last whole rest count n written is writes some = more_written middle last count n written (subst (λ (t : List ℕ). g.writes middle last t n) is writes) some

pub writing_fails : {C : Type 0} (g : Ghosts C) (first middle last : C) (whole : List ℕ) (count : ℕ) → HasWritten g first whole middle count → count < length whole → g.fails middle last → WriteFails g first whole last
writing_fails g first middle last whole count written short fails = record { middle = middle; count = count; written = written; short = short; stops = inl fails }

pub writes_none : {C : Type 0} (g : Ghosts C) (first middle last : C) (whole rest : List ℕ) (count n : ℕ) → HasWritten g first whole middle count → count < length whole → rest ≡ drop count whole → g.writes middle last rest n → n ≡ 0 → WriteFails g first whole last
writes_none g first middle last whole rest count n written short is writes none = record { middle = middle; count = count; written = written; short = short; stops = inr (subst (λ (t : List ℕ). g.writes middle last t 0) is (subst (λ (k : ℕ). g.writes middle last rest k) none writes)) }

pub reading_fails : {C : Type 0} (g : Ghosts C) (first middle last : C) (bytes : List ℕ) (fault : ExchangeFault) → HasRead g first middle bytes → StopsReading g bytes middle last fault → ReadsNoAnswer g first last fault
reading_fails g first middle last bytes fault read stops = record { middle = middle; bytes = bytes; read = read; stops = stops }

pub never_read : {C : Type 0} (g : Ghosts C) (first last : C) (bytes : List ℕ) → HasRead g first last bytes → NeverAnswers bytes → ReadsNoAnswer g first last faults.BadMessage
never_read g first last bytes read never = record { middle = last; bytes = bytes; read = read; stops = (never, refl) }

pub sent : {C : Type 0} (g : Ghosts C) (kept : Bool) (old ready new : C) (request : List ℕ) → IsReady g kept old ready → HasWritten g ready request new (length request) → IsSentWhole g kept old request new
sent g kept old ready new request is_ready written = record { ready = ready; is_ready = is_ready; written = written }

pub answered : {C : Type 0} (g : Ghosts C) (kept : Bool) (old middle new : C) (request body : List ℕ) (status : ℕ) (keeps : Bool) → IsSentWhole g kept old request middle → ReadsAnswer g middle new status body keeps → GetsAnswer g kept old request new status body keeps
answered g kept old middle new request body status keeps is_sent is_read = record { sent = middle; is_sent = is_sent; is_read = is_read }

pub left_kept : {C : Type 0} (g : Ghosts C) (kept : Bool) (old new : C) (request body : List ℕ) (status : ℕ) (keeps : Bool) → GetsAnswer g kept old request new status body keeps → keeps ≡ true → IsExchange g kept old request new status body keeps
left_kept g kept old new request body status true answer is = record { last = new; answered = answer; left = refl }
left_kept g kept old new request body status false answer is = cc

pub left_closed : {C : Type 0} (g : Ghosts C) (kept : Bool) (old last new : C) (request body : List ℕ) (status : ℕ) (keeps : Bool) → GetsAnswer g kept old request last status body keeps → keeps ≡ false → g.closes last new → IsExchange g kept old request new status body keeps
left_closed g kept old last new request body status true answer is closes = cc
left_closed g kept old last new request body status false answer is closes = record { last = last; answered = answer; left = closes }

pub failed : {C : Type 0} (g : Ghosts C) (kept : Bool) (old last new : C) (request : List ℕ) (fault : ExchangeFault) → GetsNoAnswer g kept old request last fault → g.closes last new → ExchangeFails g kept old request new fault
failed g kept old last new request fault none closes = record { last = last; failed = none; left = closes }

pub looks_kept : {C : Type 0} (g : Ghosts C) (kept : Bool) (old new : C) (usable : Bool) → kept ≡ true → g.rests old new usable → LooksAtKept g kept old new usable
looks_kept g true old new usable is rests = rests
looks_kept g false old new usable is rests = cc

pub looks_none : {C : Type 0} (g : Ghosts C) (kept : Bool) (old new : C) (usable : Bool) → kept ≡ false → new ≡ old → usable ≡ false → LooksAtKept g kept old new usable
looks_none g true old new usable is same none = cc
looks_none g false old new usable is same none = (same, none)

-- what comes after the request was written whole
pub read_after : {C : Type 0} (g : Ghosts C) (kept : Bool) (old sent last : C) (request : List ℕ) (fault : ExchangeFault) → IsSentWhole g kept old request sent → ReadsNoAnswer g sent last fault → GetsNoAnswer g kept old request last fault
read_after g kept old sent last request faults.Open is_sent fails = absurd fails.stops
read_after g kept old sent last request faults.Write is_sent fails = absurd fails.stops
read_after g kept old sent last request faults.Read is_sent fails = (sent, is_sent, fails)
read_after g kept old sent last request faults.Ended is_sent fails = (sent, is_sent, fails)
read_after g kept old sent last request faults.BadMessage is_sent fails = (sent, is_sent, fails)
read_after g kept old sent last request faults.TooLong is_sent fails = (sent, is_sent, fails)
read_after g kept old sent last request faults.NoMemory is_sent fails = (sent, is_sent, fails)

pub ready_kept : {C : Type 0} (g : Ghosts C) (kept : Bool) (old new : C) (usable : Bool) → LooksAtKept g kept old new usable → usable ≡ true → IsReady g kept old new
ready_kept g kept old new usable looks is = inl (subst (λ (b : Bool). LooksAtKept g kept old new b) is looks)

pub ready_opened : {C : Type 0} (g : Ghosts C) (kept : Bool) (old middle new : C) (usable : Bool) (time : ℕ) → LooksAtKept g kept old middle usable → usable ≡ false → time ≡ call_time → g.opens middle new time → IsReady g kept old new
ready_opened g kept old middle new usable time looks is long opens = inr (middle, subst (λ (b : Bool). LooksAtKept g kept old middle b) is looks, subst (λ (t : ℕ). g.opens middle new t) long opens)

pub unready : {C : Type 0} (g : Ghosts C) (kept : Bool) (old middle new : C) (usable : Bool) → LooksAtKept g kept old middle usable → usable ≡ false → g.fails middle new → IsUnready g kept old new
unready g kept old middle new usable looks is fails = (middle, subst (λ (b : Bool). LooksAtKept g kept old middle b) is looks, fails)

-- the connection was not made
pub not_opened : {C : Type 0} (g : Ghosts C) (kept : Bool) (old last : C) (request : List ℕ) (fault : ExchangeFault) → fault ≡ faults.Open → IsUnready g kept old last → GetsNoAnswer g kept old request last fault
not_opened g kept old last request fault is fails = subst (λ (f : ExchangeFault). GetsNoAnswer g kept old request last f) (sym is) fails

-- the request was not written whole
pub not_written : {C : Type 0} (g : Ghosts C) (kept : Bool) (old ready last : C) (request : List ℕ) (fault : ExchangeFault) → IsReady g kept old ready → fault ≡ faults.Write → WriteFails g ready request last → GetsNoAnswer g kept old request last fault
not_written g kept old ready last request fault is_ready is fails = subst (λ (f : ExchangeFault). GetsNoAnswer g kept old request last f) (sym is) (ready, is_ready, fails)
