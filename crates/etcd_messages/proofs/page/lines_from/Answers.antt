use Rattle.std.proofs.Common.{◌≡◌, ◌+◌, drop, subst, sym, ◌∙◌, ap, arith}
use Rattle.std.proofs.lemmas.Result.{err_from_is_err_and}
use Rattle.serde_json.specs.Data.{Items}
use Rattle.serde_json.specs.View.{view, items_view}
use Rattle.etcd_messages.specs.Answers.{lines_from}
use Rattle.etcd_messages.proofs.PageLemmas.{with_front, value_step, lines_more, lines_end, bad_line, Read}
use Rattle.etcd_messages.proofs.page.lines_from.Goals as goal

pub returns-in_err-line : goal.returns-in_err-line
returns-in_err-line c =
    let p = err_from_is_err_and c.from_residual.result c.from_residual.ensures.1 in
    let name = c.args.name.now in
    let pairs = c.args.pairs.now in
    let i = c.loop-pair.pair-index in
    let front = c.loop-pair.lines in
    let n = c.loop-pair.next in
    let pair = c.pair-item.result in
    rw (p.1, p.2) (bad_line name n front (view pair) (items_view (drop (i + 1) pairs)) c.in_err-line.field-0.0 _
    (ap (λ (items : Items). with_front front (lines_from name n items)) (sym (value_step pairs i pair c.loop-pair-test.true c.pair-item.is)) ∙ c.loop-pair.invariant)
    c.in_err-line.ensures.reads)

pub loop-pair-preserved : goal.loop-pair-preserved
loop-pair-preserved c =
    let name = c.args.name.now in
    let pairs = c.args.pairs.now in
    let i = c.loop-pair.pair-index in
    let front = c.loop-pair.lines in
    let n = c.loop-pair.next in
    let pair = c.pair-item.result in
    rw c.in_ok-push.ensures.ok
    (sym (lines_more name n front c.in_ok-line.line (view pair) (items_view (drop (i + 1) pairs)) c.in_ok-line.ensures.reads)
    ∙ (ap (λ (items : Items). with_front front (lines_from name n items)) (sym (value_step pairs i pair c.loop-pair-test.true c.pair-item.is)) ∙ c.loop-pair.invariant))

pub returns : goal.returns
returns c = sym c.loop-pair.invariant ∙ lines_end c.args.name.now c.loop-pair.next c.loop-pair.lines c.args.pairs.now c.loop-pair.pair-index (omega arith)
