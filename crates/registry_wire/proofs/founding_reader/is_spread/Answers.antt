use Rattle.std.proofs.Common.{◌≡◌, ◌<◌, ◌≤◌, arith}
use Rattle.registry_wire.specs.Record.{is_spread}
use Rattle.registry_wire.proofs.OrderedLemmas.{spread_goes, spread_fails, spread_ends}
use Rattle.registry_wire.proofs.founding_reader.is_spread.Goals as goal

pub returns-then-from-start : goal.returns-then-from-start
returns-then-from-start c =
    let span = c.span-item.result in
    let first : span.first ≡ c.from.result = omega (arith, c.first.ensures, c.get.ensures.number, c.from.ensures) in
    let low : span.first < c.loop-span.start = omega (arith, first, c.if-from-start.true) in
    spread_fails c.loop-span.start c.args.spans.now c.loop-span.span-index span (is_spread 1 c.args.spans.now) c.loop-span-test.true c.span-item.is c.loop-span.invariant.0 low

pub loop-span-preserved : goal.loop-span-preserved
loop-span-preserved c =
    let span = c.span-item.result in
    let first : span.first ≡ c.from.result = omega (arith, c.first.ensures, c.get.ensures.number, c.from.ensures) in
    let low : c.loop-span.start ≤ span.first = omega (arith, first, c.if-from-start.false) in
    let last : c.from-start.result ≡ span.last = omega (arith, c.last.ensures.last, c.get-in-loop-span.ensures.number, c.from-start.ensures) in
    let high : span.last ≤ 65535 = omega (arith, last, c.get-in-loop-span.ensures.valid.within, c.from-start.ensures) in
    rw last (spread_goes c.loop-span.start c.args.spans.now c.loop-span.span-index span (is_spread 1 c.args.spans.now) c.loop-span-test.true c.span-item.is c.loop-span.invariant.0 low high, omega arith)

pub returns : goal.returns
returns c = spread_ends c.loop-span.start c.args.spans.now c.loop-span.span-index (is_spread 1 c.args.spans.now) (omega arith) c.loop-span.invariant.0
