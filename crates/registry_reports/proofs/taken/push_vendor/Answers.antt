use Rattle.std.proofs.Common.{◌++◌, ◌+◌, arith, sym, ap, subst, ◌∙◌}
use Rattle.std.specs.String.{string_bytes}
use Rattle.usbnum_core.specs.declared.number.Number.{Number}
use Rattle.registry_reports.specs.Numbers.{line_at, ArePassed, IsPlace}
use Rattle.registry_reports.proofs.NumberLemmas.{line_start, line_next, still_passed}
use Rattle.registry_reports.proofs.taken.push_vendor.Goals as goal

pub loop-count-init : goal.loop-count-init
loop-count-init c = (λ k d low high. absurd (omega (arith, high)), λ up. line_start (line_at c.args.numbers.now c.args.pair.now) (string_bytes c.args.text.now))

pub loop-count-preserved : goal.loop-count-preserved
loop-count-preserved c =
    let numbers = c.args.numbers.now in
    let pair = c.args.pair.now in
    let is = c.number_after-number.ensures in
    let here = subst (λ (n : Number). ArePassed numbers n c.loop-count.place) (sym is) c.loop-count.invariant.0 in
    let place = subst (λ (n : Number). IsPlace numbers n c.in_ok-place.place) is (c.in_ok-place.ensures.place here) in (
      still_passed numbers pair.0 (c.loop-count.count + 1) c.in_ok-place.place place.passed,
      λ up. line_next (line_at numbers pair) c.loop-count.count (string_bytes c.args.text.now) (string_bytes c.loop-count.text) (string_bytes c.push_next.new.text) (c.loop-count.invariant.1 up)
          (c.in_ok-place.ensures.line up here (ap (λ (n : Number). n.vid) is) ∙ ap (λ (n : Number). string_bytes c.loop-count.text ++ line_at numbers pair n.pid) is),
    )
