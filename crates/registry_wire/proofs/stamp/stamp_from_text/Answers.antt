use Rattle.registry_wire.proofs.StampLemmas.{stamp_answer}
use Rattle.registry_wire.proofs.stamp.stamp_from_text.Goals as goal

pub returns : goal.returns
returns c = stamp_answer c.args.text.now c.moment_of.result c.moment_of.ensures
