use Rattle.std.proofs.Common.{◌≡◌, Some, None, sym, ◌∙◌, arith}
use Rattle.usbids_text.proofs.WordLemmas.{number_read, number_end}
use Rattle.usbids_text.proofs.words.number_of.Goals as goal

pub returns-in-None : goal.returns-in-None
returns-in-None c =
    let s = c.args.bytes.now in
    let step = number_read s c.loop-b.b-index c.loop-b.number None (omega arith) c.in-None.ensures.value in
    sym step ∙ c.loop-b.invariant.value

pub loop-b-preserved : goal.loop-b-preserved
loop-b-preserved c =
    let s = c.args.bytes.now in
    let same : c.from.result ≡ c.in-Some.digit = c.from.ensures in
    let small = c.in-Some.ensures.small in
    let i = c.loop-b.b-index in
    let v = c.loop-b.invariant in
    let step = number_read s c.loop-b.b-index c.loop-b.number (Some c.in-Some.digit) (omega arith) c.in-Some.ensures.value in
    record {
      value = rw same (sym step ∙ c.loop-b.invariant.value);
      none = λ e. absurd (omega arith);
      one = λ e. omega (arith, v.none, small);
      two = λ e. omega (arith, v.one, small);
      three = λ e. omega (arith, v.two, small);
      four = λ e. omega (arith, v.three, small);
    }

pub returns : goal.returns
returns c = sym (number_end c.args.bytes.now c.loop-b.b-index c.loop-b.number (omega arith)) ∙ c.loop-b.invariant.value
