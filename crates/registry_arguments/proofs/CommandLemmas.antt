-- A program with one more subcommand.
use Rattle.std.proofs.Common.{◌≡◌, refl}
use Rattle.clap.specs.Words.{App, with_subcommand}

pub with_same : (program program' sub sub' : App) → program ≡ program' → sub ≡ sub' → with_subcommand program sub.top ≡ with_subcommand program' sub'.top
with_same program program' sub sub' e f = rw (e, f) refl
