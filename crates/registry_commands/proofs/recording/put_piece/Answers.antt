use Rattle.std.proofs.Common.{◌∙◌, List, subst}
use Rattle.byte_streams.specs.Streams.{AppendsPrefix}
use Rattle.registry_rules.specs.declared.accepted.Accepted.{Accepted}
use Rattle.registry_commands.specs.Recorded.{accepted_lines}
use Rattle.registry_commands.proofs.ApplyLemmas.{prefix_of_any}
use Rattle.registry_commands.proofs.RecordedLemmas.{on_err_any}
use Rattle.registry_commands.proofs.recording.put_piece.Goals as goal

pub returns-in_err-piece-clause-err : goal.returns-in_err-piece-clause-err
returns-in_err-piece-clause-err g c = on_err_any c.from_residual.result _ (λ h stands clean valid. prefix_of_any (g.W.Sink.contents c.args.output.now) _)

pub returns-in_err-put_accepted-clause-err : goal.returns-in_err-put_accepted-clause-err
returns-in_err-put_accepted-clause-err g c = on_err_any c.from_residual-in_err-put_accepted.result _ (λ h stands clean valid.
    subst (λ (list : List Accepted). AppendsPrefix (g.W.Sink.contents c.args.output.now) (g.W.Sink.contents c.put_accepted.new.output) (accepted_lines list))
    (c.as_slice.ensures.value ∙ c.in_ok-piece.ensures.query.answered h stands clean valid) c.in_err-put_accepted.ensures.err)
