-- What is done with a connection before it is closed. Times are in nanoseconds.
--
-- A socket that is closed over unread bytes sends a reset, and the peer may lose the response. So what the peer still sends
-- is read and discarded, up to its end, for at most two seconds and up to 16 MiB.
use Rattle.std.specs.Prelude.{◌≡◌, ◌⊎◌, ℕ, ◌+◌, ◌-◌, ◌<◌, ◌≤◌, ◌==◌, Bool, true, false, List, [], ◌∷◌, Option, Some, None, sum}
use Rattle.std.specs.Bool.{MatchBool}
use Rattle.peer_streams.specs.declared.streams.Peer.{Ghosts}

-- what is left of two seconds since the start
abbrev pub time_left : ℕ → ℕ → ℕ
time_left start now = 2_000_000_000 - (now - start)

-- nothing more is read once so many bytes were discarded: 16 MiB
abbrev pub most_discarded : ℕ
most_discarded = 16_777_216

-- the most bytes of one read
abbrev pub most_in_one : ℕ
most_in_one = 16_384

module _ {P : Type 0} (g : Ghosts P) where
  -- the clock shows this time: some is left, and fewer than 16 MiB were discarded
  pub record IsInTime (start count now : ℕ) (old new : P) : Type 0 where
    pub told : g.tells old new now
    pub has_time : 0 < time_left start now
    pub has_room : count < most_discarded

  -- another read is allowed, and waits at most for the time that is left
  pub record IsAllowed (start count : ℕ) (old new : P) : Type 0 where
    pub now : ℕ
    pub between : P
    pub in_time : IsInTime start count now old between
    pub limited : g.limits_reads between new (time_left start now)

  -- no time is left, or 16 MiB were discarded
  pub record IsOver (start count : ℕ) (old new : P) : Type 0 where
    pub now : ℕ
    pub told : g.tells old new now
    pub reason : (time_left start now ≡ 0) ⊎ (most_discarded ≤ count)

  -- the clock could not be read; or another read would be in time, but its limit could not be set
  abbrev pub IsStuck : ℕ → ℕ → P → P → Type 0
  IsStuck start count old new = g.fails old new ⊎ ((now : ℕ) × (between : P) × IsInTime start count now old between × g.fails between new)

  -- nothing more is read: the limits are reached, a call failed, or the peer came to its end
  abbrev pub Stops : ℕ → ℕ → P → P → Type 0
  Stops start count old new =
      IsOver start count old new
      ⊎ (IsStuck start count old new
      ⊎ ((middle : P) × IsAllowed start count old middle × (g.fails middle new ⊎ g.reads middle new most_in_one 0)))

  -- Where so many bytes were discarded since the start, these are the numbers of bytes in the further pieces that are
  -- discarded. Each read is allowed, and after the last piece nothing more is read.
  abbrev pub HaveDiscarded : ℕ → ℕ → P → P → List ℕ → Type 0
  HaveDiscarded start count old new [] = Stops start count old new
  HaveDiscarded start count old new (n ∷ pieces) =
      (middle : P) × (next : P) × IsAllowed start count old middle × g.reads middle next most_in_one n × (0 < n) × (n ≤ most_in_one) × HaveDiscarded start (count + n) next new pieces

  -- what the peer still sends is discarded from the start on: fewer bytes than 16 MiB and one piece
  pub record Discards (start : ℕ) (old new : P) : Type 0 where
    pub pieces : List ℕ
    pub discarded : HaveDiscarded start 0 old new pieces
    pub at_most : sum pieces < most_discarded + most_in_one

  -- this call was made, and what follows began where it led; or the call failed, and was the last one
  abbrev pub Then : (P → P → Type 0) → (P → P → Type 0) → P → P → Type 0
  Then does follows old new = g.fails old new ⊎ ((middle : P) × does old middle × follows middle new)

  -- the clock is read, and what the peer still sends is discarded from that time on
  abbrev pub DiscardsFromNow : P → P → Type 0
  DiscardsFromNow old new = g.fails old new ⊎ ((start : ℕ) × (middle : P) × g.tells old middle start × Discards start middle new)

  -- calls wait from now on, the response is ended, and then what the peer still sends is discarded
  abbrev pub Drains : P → P → Type 0
  Drains = Then (λ old new. g.waits old new true) (Then g.ends DiscardsFromNow)

  -- One byte was looked for without waiting, and is there. Or the flag is false: it is not there, or a call failed.
  abbrev pub Looks : P → P → Bool → Type 0
  Looks old new true = (middle : P) × g.waits old middle false × g.sees middle new 1 1
  Looks old new false = Then (λ a b. g.waits a b false) (λ a b. g.fails a b ⊎ g.sees a b 1 0) old new

  -- What was done before a connection is closed whose response was written whole with this status, or whose peer failed. A
  -- message that got status 200 was read to its end, so what follows it is discarded only if a byte is there. After another
  -- status what follows is always discarded. If the peer failed, nothing is done.
  abbrev pub IsClosed : P → P → Option ℕ → Type 0
  IsClosed old new None = new ≡ old
  IsClosed old new (Some status) =
      MatchBool (status == 200)
      ((middle : P) × ((Looks old middle true × Drains middle new) ⊎ (Looks old middle false × (new ≡ middle))))
      (Drains old new)
