use Rattle.std.proofs.Common.{◌≡◌, ◌<◌, ◌+◌, ◌++◌, drop}
use Rattle.registry_rules.specs.History.{History}
use Rattle.registry_laws.specs.Records.{record_of}
use Rattle.shared_log.specs.Calls.{Grows, KeepsLines, LogLines}
use Rattle.shared_registry.specs.Asks.{AppendsLines, IsLogAsked}
use Rattle.shared_registry.specs.Records.{HasPassed}
use Rattle.shared_registry.proofs.joining.append_lines.Given as goal

abbrev pub invariant-loop-line : goal.invariant-loop-line
invariant-loop-line g l = record {
  passed : (log : g.row.L.Denot → LogLines) → KeepsLines g.L.Log log → (h : History) (rest : LogLines) → drop l.initial.cursor.next (record_of h) ≡ l.lines ++ rest → HasPassed log l.initial.cursor h
      → HasPassed log l.cursor h × Grows (log l.initial.cursor.log) (log l.cursor.log);
  asks : IsLogAsked g.L.Log (AppendsLines l.lines l.initial.cursor.next) l.initial.cursor.log l.cursor.log;
  small : l.cursor.next < 4294967296;
  counted : l.cursor.next ≡ l.initial.cursor.next + l.line-index;
}
