use Rattle.std.proofs.Common.{◌≡◌, ◌-◌, length}
use Rattle.std.specs.Time.{instant_nanos}
use Rattle.peer_streams.specs.Closing.{most_discarded, most_in_one}
use Rattle.peer_streams.proofs.DiscardLemmas.{Rest}
use Rattle.peer_streams.proofs.closing.discard.Given as goal

-- what is discarded from here on, together with what was, is discarded from the start on
abbrev pub invariant-loop-peer : goal.invariant-loop-peer
invariant-loop-peer g l = record {
  joins : (new : g.row.P.Denot) → Rest g.P.Peer (instant_nanos l.start) l.count l.peer new → Rest g.P.Peer (instant_nanos l.start) 0 l.initial.peer new;
  has_room : length l.room ≡ most_in_one;
}

abbrev pub decreases-loop-peer : goal.decreases-loop-peer
decreases-loop-peer g l = most_discarded - l.count
