use Rattle.std.proofs.Common.{[], inl, inr, arith, ◌∙◌}
use Rattle.std.proofs.lemmas.Bool.{MatchBool-at_true, MatchBool-at_false}
use Rattle.peer_streams.proofs.DiscardLemmas.{discards, ended_at, goes_on_from}
use Rattle.peer_streams.proofs.closing.discard.Goals as goal

pub returns-in_err-may_read_on : goal.returns-in_err-may_read_on
returns-in_err-may_read_on g c = discards g.P.Peer _ _ _ (c.loop-peer.invariant.joins _ ([], inr (inl c.in_err-may_read_on.ensures)))

pub returns-then-not-branch : goal.returns-then-not-branch
returns-then-not-branch g c =
    let over = MatchBool-at_false _ _ c.if-not-branch.true c.in_ok-may_read_on.ensures in
    discards g.P.Peer _ _ _ (c.loop-peer.invariant.joins _ ([], inl over))

pub returns-in_err-more : goal.returns-in_err-more
returns-in_err-more g c =
    let allowed = MatchBool-at_true _ _ c.if-not-branch.false c.in_ok-may_read_on.ensures in
    discards g.P.Peer _ _ _ (c.loop-peer.invariant.joins _ ([], inr (inr (_, allowed, inl c.in_err-more.ensures.failed))))

pub returns-in-0 : goal.returns-in-0
returns-in-0 g c =
    let allowed = MatchBool-at_true _ _ c.if-not-branch.false c.in_ok-may_read_on.ensures in
    discards g.P.Peer _ _ _ (c.loop-peer.invariant.joins _ (ended_at g.P.Peer _ _ _ _ _ _ _ c.loop-peer.invariant.has_room c.in-0.is allowed c.in_ok-more.ensures.reads))

pub loop-peer-preserved : goal.loop-peer-preserved
loop-peer-preserved g c =
    let allowed = MatchBool-at_true _ _ c.if-not-branch.false c.in_ok-may_read_on.ensures in
    record {
      joins = λ new rest. c.loop-peer.invariant.joins new (goes_on_from g.P.Peer _ _ _ _ _ _ _ _ c.loop-peer.invariant.has_room (omega arith) c.in_ok-more.ensures.count allowed c.in_ok-more.ensures.reads rest);
      has_room = c.read.auto.room ∙ c.loop-peer.invariant.has_room;
    }
