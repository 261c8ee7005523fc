-- What is discarded piece by piece.
use Rattle.std.proofs.Common.{ℕ, ◌≡◌, ◌+◌, ◌<◌, ◌≤◌, List, [], ◌∷◌, inr, arith, subst}
use Rattle.std.specs.Prelude.{fold}
use Rattle.peer_streams.specs.declared.streams.Peer.{Ghosts}
use Rattle.peer_streams.specs.Closing.{Discards, HaveDiscarded, IsAllowed, most_discarded, most_in_one}

-- where so many bytes were discarded, the rest is
abbrev pub Rest : {P : Type 0} → Ghosts P → ℕ → ℕ → P → P → Type 0
Rest g start count old new = (pieces : List ℕ) × HaveDiscarded g start count old new pieces

-- a read with so much room that came to the end
pub ended_at : {P : Type 0} (g : Ghosts P) (start count room n : ℕ) (old middle new : P)
    → room ≡ most_in_one → n ≡ 0 → IsAllowed g start count old middle → g.reads middle new room n → Rest g start count old new
ended_at g start count room n old middle new room_is none allowed done =
    ([], inr (inr (middle, allowed, inr (subst (λ (k : ℕ). g.reads middle new most_in_one k) none (subst (λ (k : ℕ). g.reads middle new k n) room_is done)))))

-- a read with so much room, and what follows it
pub goes_on_from : {P : Type 0} (g : Ghosts P) (start count room n : ℕ) (old middle next new : P)
    → room ≡ most_in_one → 0 < n → n ≤ room → IsAllowed g start count old middle → g.reads middle next room n
    → Rest g start (count + n) next new → Rest g start count old new
goes_on_from g start count room n old middle next new room_is some within allowed done rest =
    (n ∷ rest.0, (middle, next, allowed, subst (λ (k : ℕ). g.reads middle next k n) room_is done, some, omega (arith, room_is, within), rest.1))

-- each piece begins with fewer bytes than 16 MiB
count_below : {P : Type 0} (g : Ghosts P) (start count : ℕ) (old new : P) (pieces : List ℕ)
    → HaveDiscarded g start count old new pieces → count < most_discarded + most_in_one → fold ◌+◌ count pieces < most_discarded + most_in_one
count_below g start count old new [] stops below = below
count_below g start count old new (n ∷ pieces) (middle, next, allowed, done, some, within, rest) below =
    let has_room : count < most_discarded = allowed.in_time.has_room in
    count_below g start (count + n) next new pieces rest (omega (arith, has_room, within))

pub discards : {P : Type 0} (g : Ghosts P) (start : ℕ) (old new : P) → Rest g start 0 old new → Discards g start old new
discards g start old new rest = record {
  pieces = rest.0;
  discarded = rest.1;
  at_most = count_below g start 0 old new rest.0 rest.1 (omega arith);
}
