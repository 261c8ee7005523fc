use Rattle.usbids_text.proofs.InnerLemmas.{inner_some}
use Rattle.usbids_text.proofs.PieceLemmas.{inner_none}
use Rattle.usbids_text.proofs.pieces.line_feed.Goals as goal

pub returns-clause-inner : goal.returns-clause-inner
returns-clause-inner c = inner_some c.args.bytes.now c.first_feed.result c.first_feed.ensures.value

pub returns-clause-none : goal.returns-clause-none
returns-clause-none c = inner_none c.args.bytes.now c.first_feed.result c.first_feed.ensures.value
