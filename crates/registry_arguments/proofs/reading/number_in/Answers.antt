use Rattle.std.proofs.Common.{◌≤◌, arith, sym}
use Rattle.registry_arguments.proofs.NumberLemmas.{number_within, number_outside, number_none}
use Rattle.registry_arguments.proofs.reading.number_in.Goals as goal
use Rattle.registry_arguments.proofs.reading.number_in.Goals.{else-low-number-via-then-low-number+else-number-high, else-low-number-via-else-low-number}

pub returns-then-number-high-clause-value : goal.returns-then-number-high-clause-value
returns-then-number-high-clause-value c =
    sym (number_within c.args.low c.args.high c.args.text.now c.in-Ok.number c.in-Ok.ensures.value.0 (omega arith) (omega arith))

pub returns-else-low-number-clause-value : goal.returns-else-low-number-clause-value
returns-else-low-number-clause-value c =
    let n = c.in-Ok.number in
    let out : ¬ ((c.args.low ≤ n) × (n ≤ c.args.high)) = λ h. elim c.else-low-number.branch [
      | else-low-number-via-then-low-number+else-number-high w ↦ absurd (omega (arith, h.1))
      | else-low-number-via-else-low-number w ↦ absurd (omega (arith, h.0))
    ] in
    sym (number_outside c.args.low c.args.high c.args.text.now n c.in-Ok.ensures.value.0 out)

pub returns-in-Err-clause-value : goal.returns-in-Err-clause-value
returns-in-Err-clause-value c = sym (number_none c.args.low c.args.high c.args.text.now c.in-Err.ensures.value.0)
