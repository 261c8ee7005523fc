use Rattle.std.proofs.Common.{◌≡◌, ◌≤◌, ◌+◌, MatchOption, subst, arith, rules}
use Rattle.sqlite.specs.State.{HasCleanDisk}
use Rattle.sqlite.specs.Held.{state}
use Rattle.registry_tables.specs.Reserved.{Reaches}
use Rattle.registry_tables.proofs.WriteLemmas.{ok_as}
use Rattle.registry_tables.proofs.SpanSteps.{releases}
use Rattle.registry_tables.proofs.spans.release_span.Goals as goal

pub returns : goal.returns
returns g c = record {
  writes = record {
    same_reference = search rules;
    fault = search rules;
    survives = search rules;
    done = λ clean inside.
        let s0 = state g.S.Store c.args.tx.now.conn.now in
        let s1 = state g.S.Store c.spans_meeting.new.tx.conn.now in
        let s2 = state g.S.Store c.cut_spans.new.tx.conn.now in
        let s3 = state g.S.Store c.put_part.new.tx.conn.now in
        let s4 = state g.S.Store c.put_part-2.new.tx.conn.now in
        let third : HasCleanDisk s3 = omega (arith, c.put_part-2.ensures.writes.survives.clean) in
        let second : HasCleanDisk s2 = omega (arith, third, c.put_part.ensures.writes.survives.clean) in
        let first : HasCleanDisk s1 = omega (arith, second, c.cut_spans.ensures.writes.survives.clean) in
        let span = c.args.span.now in
        let low = c.from-low.result in
        let high = c.from-high.result in
        let read = c.in_ok-found.ensures.reads.told first inside in
        let cut = c.in_ok-cut_spans.ensures.writes.done second read.0.mode in
        let put = c.in_ok-put_part.ensures.writes.done third cut.0.mode cut.0.is_open in
        let same : c.deref.result.now ≡ c.in_ok-found.found.items = search rules in
        let reach = subst (λ l. Reaches span l c.reach-least.result.0 c.reach-least.result.1) same c.reach-least.ensures in
        let is_low : low ≡ span.first = search rules in
        let is_high : high ≡ span.last = search rules in
        let left = subst (λ n. MatchOption c.before-2.result (n ≤ c.reach-least.result.0) (λ part. (part.first ≡ c.reach-least.result.0) × (part.last + 1 ≡ n))) c.first-2.ensures c.before-2.ensures in
        let right = subst (λ n. MatchOption c.after.result (c.reach-least.result.1 ≤ n) (λ part. (part.first ≡ n + 1) × (part.last ≡ c.reach-least.result.1))) c.last-2.ensures.last c.after.ensures in
        ok_as c.put_part-2.result
        (releases s0 s1 s2 c.args.vid low high c.in_ok-found.found.items read cut span c.reach-least.result.0 c.reach-least.result.1 reach s3 s4 is_low is_high c.before-2.result c.after.result left right put)
        (c.put_part-2.ensures.writes.done clean put.0.mode put.0.is_open);
  };
}
