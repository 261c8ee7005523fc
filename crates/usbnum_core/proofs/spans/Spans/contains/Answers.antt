-- The span of the number alone meets the set if and only if the set has the number.
use Rattle.usbnum_core.proofs.OnePartLemmas.{has_from_meets}
use Rattle.usbnum_core.proofs.spans.Spans.contains.Goals as goal

pub returns : goal.returns
returns c = has_from_meets _ _ c.between.result c.between.ensures.first c.between.ensures.last _ c.meets.ensures
