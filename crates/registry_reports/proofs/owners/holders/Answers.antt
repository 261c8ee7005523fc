use Rattle.std.specs.String.{string_bytes}
use Rattle.std.proofs.lemmas.Result.{IfOk-weaker}
use Rattle.registry_reports.proofs.HolderLemmas.{are_holders}
use Rattle.registry_reports.proofs.owners.holders.Goals as goal

pub returns : goal.returns
returns c = IfOk-weaker c.lines_of.result _ _ (λ text is. are_holders c.args.numbers.now c.in_ok-tallies.tallies (string_bytes text) c.lines_of.ensures.ordered c.in_ok-tallies.ensures is) c.lines_of.ensures.lines
