use Rattle.std.proofs.Common.{◌≡◌, ◌++◌, ◌+◌}
use Rattle.std.specs.String.{string_bytes}
use Rattle.registry_rules.specs.Number.{number}
use Rattle.registry_reports.specs.Order.{Ascends}
use Rattle.registry_reports.specs.Numbers.{lines_to, line_at, ArePassed}
use Rattle.registry_reports.proofs.taken.push_vendor.Given as goal

abbrev pub invariant-loop-count : goal.invariant-loop-count
invariant-loop-count l = ArePassed l.numbers (number l.pair.0 (l.count + 1)) l.place
    × (Ascends l.numbers → string_bytes l.text ≡ string_bytes l.initial.text ++ lines_to (line_at l.numbers l.pair) l.count)
