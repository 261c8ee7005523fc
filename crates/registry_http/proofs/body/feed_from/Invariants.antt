use Rattle.std.proofs.Common.{◌≡◌, ◌+◌, ◌++◌, ℕ, List, length}
use Rattle.std.specs.Io.KnownBytes.{Consumes}
use Rattle.usbids_text.specs.Readers.{WasFed}
use Rattle.registry_http.proofs.body.feed_from.Given as goal

abbrev pub invariant-loop-left : goal.invariant-loop-left
invariant-loop-left g l = record {
  read : (more : List ℕ) × (length more + l.left ≡ l.wanted) × Consumes (g.R.Source.remaining l.initial.source) (g.R.Source.remaining l.source) more
      × ((t : List ℕ) → WasFed l.initial.reader t → WasFed l.reader (t ++ more));
  same_failures : g.R.Source.failures l.source ≡ g.R.Source.failures l.initial.source;
}

abbrev pub decreases-loop-left : goal.decreases-loop-left
decreases-loop-left g l = l.left
