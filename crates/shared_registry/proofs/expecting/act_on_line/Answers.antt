use Rattle.std.proofs.Common.{refl}
use Rattle.std.proofs.lemmas.Result.{IfErr-weaker}
use Rattle.shared_registry.specs.Lines.{Continues, ContinuesBy}
use Rattle.shared_registry.proofs.LineLemmas.{by_request, stopped_so, unread}
use Rattle.shared_registry.proofs.expecting.act_on_line.Goals as goal

pub returns-in-Ok-Accepted-clause-goes_on : goal.returns-in-Ok-Accepted-clause-goes_on
returns-in-Ok-Accepted-clause-goes_on g c h stands clean = rw c.as_bytes-in-Ok-Accepted.ensures at (c.act_on.ensures.goes_on h stands clean)

pub returns-in-Ok-Accepted-clause-stopped : goal.returns-in-Ok-Accepted-clause-stopped
returns-in-Ok-Accepted-clause-stopped g c h stands clean =
    let line = c.args.line.now in
    let reading = rw (c.as_bytes.ensures, c.in-Ok-Accepted.field-0-is) at c.in-Ok-Accepted.ensures in
    IfErr-weaker c.act_on.result _ _
    (stopped_so c.act_on.new.registry h line (ContinuesBy h c.in-Ok-Accepted.accepted.request line) (Continues h line) c.args.n (by_request h line c.in-Ok-Accepted.accepted c.in-Ok-Accepted.field-0-1 reading))
    (rw c.as_bytes-in-Ok-Accepted.ensures at (c.act_on.ensures.stopped h stands clean))

pub returns-in-Ok-Founding-clause-stopped : goal.returns-in-Ok-Founding-clause-stopped
returns-in-Ok-Founding-clause-stopped g c h stands clean =
    let reading = rw (c.as_bytes.ensures, c.in-Ok-Founding.field-0-is) at c.in-Ok-Founding.ensures in
    (refl, stands, unread h c.args.line.now _ reading (λ accepted is. cc))

pub returns-in-Err-Refused-clause-stopped : goal.returns-in-Err-Refused-clause-stopped
returns-in-Err-Refused-clause-stopped g c h stands clean =
    let reading = rw (c.as_bytes.ensures, c.in-Err-Refused.field-0-is) at c.in-Err-Refused.ensures in
    (refl, stands, unread h c.args.line.now _ reading (λ accepted is. cc))
