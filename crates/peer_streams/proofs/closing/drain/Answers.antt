use Rattle.std.proofs.Common.{inr}
use Rattle.peer_streams.proofs.closing.drain.Goals as goal

pub returns : goal.returns
returns g c = inr (_, c.in_ok-set_waiting.ensures.waits, inr (_, c.in_ok-end_writing.ensures.ends, inr (_, _, c.in_ok-start.ensures.tells, c.discard.ensures)))
