use Rattle.std.proofs.Common.{◌≡◌, ◌+◌, ℕ, List}
use Rattle.registry_views.specs.Records.{AreNext, IsBegun}
use Rattle.registry_views.proofs.record.put_lines.Given as goal

abbrev pub invariant-loop-one : goal.invariant-loop-one
invariant-loop-one l = (lines : List (List ℕ)) (most : ℕ) → IsBegun lines l.initial.page → AreNext most lines l.initial.page l.accepted → IsBegun lines l.page × (l.page.count ≡ l.initial.page.count + l.one-index)
