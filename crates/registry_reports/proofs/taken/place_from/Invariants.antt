use Rattle.std.proofs.Common.{◌-◌, length}
use Rattle.registry_reports.specs.Numbers.{ArePassed}
use Rattle.registry_reports.proofs.taken.place_from.Given as goal

abbrev pub invariant-loop-place : goal.invariant-loop-place
invariant-loop-place l = ArePassed l.numbers l.number l.initial.place → ArePassed l.numbers l.number l.place

abbrev pub decreases-loop-place : goal.decreases-loop-place
decreases-loop-place l = length l.numbers - l.place
