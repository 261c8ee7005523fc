use Rattle.std.proofs.Common.{◌≡◌, arith, drop, ◌∙◌}
use Rattle.std.proofs.lemmas.Result.{err_from_is_err_and}
use Rattle.std.proofs.Math.Seq.{take-add}
use Rattle.std.proofs.lemmas.List.{length-drop}
use Rattle.byte_streams.proofs.StreamLemmas.{appends_then, keeps_none, put_fails, suffix}
use Rattle.byte_streams.proofs.streams.put_all.Goals as goal

pub loop-count-preserved : goal.loop-count-preserved
loop-count-preserved g c =
    let i = c.loop-count.count in
    let n = c.in_ok-taken.taken in
    let h = rw (suffix i c.args.bytes.now) at c.in_ok-taken.ensures.moves in
    let some : n ≡ 0 → ⊥ = c.if-taken-eq0.false in
    record {
      put = rw (take-add i n c.args.bytes.now) (appends_then _ _ _ _ _ c.loop-count.invariant.put h.1);
      within = omega (arith, h.0, length-drop i c.args.bytes.now);
      same_failures = h.3 (omega arith) ∙ c.loop-count.invariant.same_failures;
    }

pub returns-in_err-taken : goal.returns-in_err-taken
returns-in_err-taken g c =
    let p = err_from_is_err_and c.from_residual.result c.from_residual.ensures.1 in
    let h = c.in_err-taken.ensures.moves in
    rw p.1 (put_fails _ _ _ _ _ _ c.loop-count.count c.args.bytes.now c.loop-count.invariant.put h.0 c.loop-count.invariant.same_failures h.1)

pub returns-then-taken-eq0 : goal.returns-then-taken-eq0
returns-then-taken-eq0 g c =
    let i = c.loop-count.count in
    let n = c.in_ok-taken.taken in
    let none : n ≡ 0 = c.if-taken-eq0.true in
    let h = rw (suffix i c.args.bytes.now) at c.in_ok-taken.ensures.moves in
    put_fails _ _ _ _ _ _ i c.args.bytes.now c.loop-count.invariant.put (keeps_none _ _ n (drop i c.args.bytes.now) none h.1) c.loop-count.invariant.same_failures (h.2 none (omega (arith, length-drop i c.args.bytes.now)))
