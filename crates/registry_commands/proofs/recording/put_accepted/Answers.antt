use Rattle.std.proofs.Common.{◌∙◌, List, ℕ, ◌++◌, suc, take, drop, sym, subst, arith}
use Rattle.std.specs.Io.KnownBytes.{Appends}
use Rattle.byte_streams.specs.Streams.{AppendsPrefix}
use Rattle.byte_streams.proofs.StreamLemmas.{appends_prefix_more, appends_prefix_then, appends_then}
use Rattle.registry_wire.specs.Record.{accepted_line}
use Rattle.registry_commands.specs.Recorded.{accepted_lines}
use Rattle.registry_commands.proofs.RecordedLemmas.{line_of, lines_around, lines_next, on_err_any}
use Rattle.registry_commands.proofs.recording.put_accepted.Goals as goal

pub loop-accepted-preserved : goal.loop-accepted-preserved
loop-accepted-preserved g c =
    let list = c.args.list.now in
    let i = c.loop-accepted.accepted-index in
    let x = c.accepted-item.result in
    record {
      gained = subst (λ (text : List ℕ). Appends (g.W.Sink.contents c.args.output.now) (g.W.Sink.contents c.put_line.new.output) text)
          (sym (lines_next list i x (omega arith) c.accepted-item.is))
          (appends_then _ _ _ (accepted_lines (take i list)) (line_of x) c.loop-accepted.invariant.gained (c.in_ok-put_line.ensures.ok (accepted_line x) c.accepted_line.ensures));
      kept = c.in_ok-put_line.ensures.kept ∙ c.loop-accepted.invariant.kept;
    }

pub returns-in_err-put_line-clause-err : goal.returns-in_err-put_line-clause-err
returns-in_err-put_line-clause-err g c =
    let list = c.args.list.now in
    let i = c.loop-accepted.accepted-index in
    let x = c.accepted-item.result in
    let rest = accepted_lines (drop (suc i) list) in
    on_err_any c.from_residual.result _
    (subst (λ (text : List ℕ). AppendsPrefix (g.W.Sink.contents c.args.output.now) (g.W.Sink.contents c.put_line.new.output) text)
    (sym (lines_around list i x (omega arith) c.accepted-item.is))
    (appends_prefix_then _ _ _ (accepted_lines (take i list)) (line_of x ++ rest) c.loop-accepted.invariant.gained
    (appends_prefix_more _ _ (line_of x) rest (c.in_err-put_line.ensures.err (accepted_line x) c.accepted_line.ensures))))
