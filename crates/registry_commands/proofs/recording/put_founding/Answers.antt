use Rattle.registry_wire.specs.Record.{founding_line}
use Rattle.registry_commands.proofs.ApplyLemmas.{prefix_of_any}
use Rattle.registry_commands.proofs.RecordedLemmas.{on_err_any}
use Rattle.registry_commands.proofs.recording.put_founding.Goals as goal

pub returns-clause-ok : goal.returns-clause-ok
returns-clause-ok g c h stands clean =
    let is = c.in_ok-founding.ensures.query.answered h stands clean in
    c.in_ok-put_line.ensures.ok (founding_line h.founding) (rw (← is) c.founding_line.ensures)

pub returns-in_err-founding-clause-err : goal.returns-in_err-founding-clause-err
returns-in_err-founding-clause-err g c = on_err_any c.from_residual.result _ (λ h stands clean. prefix_of_any (g.W.Sink.contents c.args.output.now) _)

pub returns-in_err-put_line-clause-err : goal.returns-in_err-put_line-clause-err
returns-in_err-put_line-clause-err g c = on_err_any c.from_residual-in_err-put_line.result _ (λ h stands clean.
    let is = c.in_ok-founding.ensures.query.answered h stands clean in
    c.in_err-put_line.ensures.err (founding_line h.founding) (rw (← is) c.founding_line.ensures))
