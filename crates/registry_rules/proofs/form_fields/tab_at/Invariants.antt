use Rattle.std.proofs.Common.{◌≡◌, ◌+◌, drop}
use Rattle.registry_rules.specs.Reading.{tab_at}
use Rattle.registry_rules.proofs.form_fields.tab_at.Given as goal

abbrev pub invariant-loop-at : goal.invariant-loop-at
invariant-loop-at l = tab_at l.text ≡ l.at + tab_at (drop l.at l.text)
