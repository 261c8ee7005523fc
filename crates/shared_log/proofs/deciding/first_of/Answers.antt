use Rattle.std.proofs.Common.{◌≡◌, ◌++◌, drop, sym, ◌∙◌, ap}
use Rattle.shared_log.proofs.CallLemmas.{cut_at}
use Rattle.shared_log.proofs.deciding.first_of.Goals as goal

pub returns-then-len-most : goal.returns-then-len-most
returns-then-len-most c =
    (drop c.loop-line.line-index c.args.lines.now, cut_at c.args.lines.now c.loop-line.page c.loop-line.line-index c.loop-line.invariant, λ no. cc)
