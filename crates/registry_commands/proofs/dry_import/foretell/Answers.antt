use Rattle.std.proofs.Common.{◌≡◌, inl, inr, refl, ap, rules}
use Rattle.std.specs.Prelude.{Err, true, false}
use Rattle.registry_commands.specs.DryRuns.{imports_nothing}
use Rattle.registry_commands.proofs.ApplyLemmas.{keeps_same}
use Rattle.registry_commands.proofs.dry_import.foretell.Goals as goal

pub returns-then-imports_nothing : goal.returns-then-imports_nothing
returns-then-imports_nothing g c =
    let is : imports_nothing c.args.reply.now ≡ true = search rules in
    rw is (inl (refl, (c.in-Ok.ensures.ok, c.in-Ok.ensures.kept), c.tell.ensures.told))

pub returns-else-imports_nothing : goal.returns-else-imports_nothing
returns-else-imports_nothing g c =
    let is : imports_nothing c.args.reply.now ≡ false = search rules in
    rw is (inl (c.exit_status_of.ensures, (c.in-Ok.ensures.ok, c.in-Ok.ensures.kept), (keeps_same _, refl)))

pub returns-in-Err : goal.returns-in-Err
returns-in-Err g c =
    inr (c.fail.ensures.status, c.in-Err.ensures.err, (c.in-Err.failure, (c.in-Err.ensures.failure.0, c.in-Err.ensures.failure.1, λ memory. ap g.W.Sink.contents (c.in-Err.ensures.short (ap Err memory))), c.fail.ensures.told))
