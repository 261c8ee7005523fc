use Rattle.std.proofs.Common.{◌≡◌, ◌-◌}
use Rattle.std.specs.Prelude.{vec_len}
use Rattle.std.specs.Io.KnownBytes.{Consumes}
use Rattle.registry_commands.proofs.input.read_all.Given as goal

abbrev pub invariant-loop-source : goal.invariant-loop-source
invariant-loop-source g l = record {
  read : Consumes (g.R.Source.remaining l.initial.source) (g.R.Source.remaining l.source) l.bytes.items;
  same_failures : g.R.Source.failures l.source ≡ g.R.Source.failures l.initial.source;
}

abbrev pub decreases-loop-source : goal.decreases-loop-source
decreases-loop-source g l = 4294967296 - vec_len l.bytes
