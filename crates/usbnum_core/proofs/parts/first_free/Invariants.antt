-- All numbers below the free number are taken, and all that was passed is below it.
use Rattle.std.proofs.Common.{◌+◌, ◌-◌, length}
use Rattle.usbnum_core.proofs.FirstFreeLemmas.{IsPassed}
use Rattle.usbnum_core.proofs.parts.first_free.Given as goal

abbrev pub invariant-loop-part : goal.invariant-loop-part
invariant-loop-part l = IsPassed l.parts l.numbers l.part l.place l.free

abbrev pub decreases-loop-part : goal.decreases-loop-part
decreases-loop-part l = (length l.parts - l.part) + (length l.numbers - l.place)
