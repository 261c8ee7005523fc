-- The next part and the next number are above the free number.
use Rattle.std.proofs.Common.{◌<◌, length, get_or, ap, ◌∙◌, arith}
use Rattle.std.proofs.lemmas.List.{get_or_default}
use Rattle.usbnum_core.specs.declared.number.Span.{Span}
use Rattle.usbnum_core.proofs.FirstFreeLemmas.{not_taken}
use Rattle.usbnum_core.proofs.parts.first_free.Goals.{else-part-parts-via-then-part-parts+else-from-free, else-part-parts-via-else-part-parts, else-place-numbers-via-then-place-numbers+else-from-free-2, else-place-numbers-via-else-place-numbers}
use Rattle.usbnum_core.proofs.parts.first_free.Goals as goal

pub returns-else-place-numbers : goal.returns-else-place-numbers
returns-else-place-numbers c =
    let inv = c.loop-part.invariant in
    let part_above : (d : Span) → c.loop-part.part < length c.args.parts.now → c.loop-part.free < (get_or c.args.parts.now c.loop-part.part d).first = λ d within. elim c.else-part-parts.branch [
      | else-part-parts-via-then-part-parts+else-from-free w ↦
          let same = ap (λ (x : Span). x.first) (w.index-parts-part.is ∙ get_or_default c.args.parts.now c.loop-part.part _ d within) in
          omega arith
      | else-part-parts-via-else-part-parts w ↦ absurd (omega arith)
    ] in
    let number_above : c.loop-part.place < length c.args.numbers.now → c.loop-part.free < get_or c.args.numbers.now c.loop-part.place 0 = λ within. elim c.else-place-numbers.branch [
      | else-place-numbers-via-then-place-numbers+else-from-free-2 w ↦
          let same = w.index-numbers-place.is ∙ get_or_default c.args.numbers.now c.loop-part.place _ 0 within in
          omega arith
      | else-place-numbers-via-else-place-numbers w ↦ absurd (omega arith)
    ] in
    record {
      above = inv.above;
      within = inv.within;
      outside = not_taken c.args.parts.now c.args.numbers.now c.requires.spread c.requires.ascends c.loop-part.part c.loop-part.place c.loop-part.free inv.parts_below inv.numbers_below part_above number_above;
      below_taken = inv.below_taken;
    }
