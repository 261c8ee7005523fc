use Rattle.std.proofs.Common.{◌≡◌, take}
use Rattle.std.specs.String.{string_bytes}
use Rattle.registry_reports.specs.Order.{Ascends}
use Rattle.registry_reports.specs.Numbers.{number_lines}
use Rattle.registry_reports.proofs.taken.taken_numbers.Given as goal

abbrev pub invariant-loop-pair : goal.invariant-loop-pair
invariant-loop-pair l = Ascends l.numbers → string_bytes l.text ≡ number_lines l.numbers (take l.pair-index l.vendors)
