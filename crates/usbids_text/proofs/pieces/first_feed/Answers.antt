use Rattle.std.specs.Prelude.{◌==◌}
use Rattle.usbids_text.proofs.PlaceLemmas.{first_place}
use Rattle.usbids_text.proofs.pieces.first_feed.Goals as goal

pub returns-clause-value : goal.returns-clause-value
returns-clause-value c = first_place (λ b. b == 10) c.args.bytes.now c.memchr.result c.memchr.ensures
