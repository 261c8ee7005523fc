use Rattle.std.proofs.Common.{◌≡◌, ℕ, nat_eq, map, take}
use Rattle.std.specs.List.{list_any}
use Rattle.usbnum_core.specs.Spans.{spans_have}
use Rattle.registry_tables.proofs.second.spans_of.Given as goal

-- the set has the numbers so far
abbrev pub invariant-loop-number : goal.invariant-loop-number
invariant-loop-number l = record {
  numbers : (n : ℕ) → spans_have l.set n ≡ list_any (nat_eq n) (map (λ one. one.pid) (take l.number-index l.numbers));
}
