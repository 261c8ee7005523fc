use Rattle.std.proofs.Common.{◌≡◌, ◌-◌, ◌++◌, ℕ, List, length}
use Rattle.std.specs.Io.KnownBytes.{Consumes}
use Rattle.registry_http.proofs.body.read_up_to.Given as goal

abbrev pub invariant-loop-source : goal.invariant-loop-source
invariant-loop-source g l = record {
  read : (more : List ℕ) × (l.buffer.items ≡ l.initial.buffer.items ++ more) × Consumes (g.R.Source.remaining l.initial.source) (g.R.Source.remaining l.source) more;
  same_failures : g.R.Source.failures l.source ≡ g.R.Source.failures l.initial.source;
}

abbrev pub decreases-loop-source : goal.decreases-loop-source
decreases-loop-source g l = l.wanted - length l.buffer.items
