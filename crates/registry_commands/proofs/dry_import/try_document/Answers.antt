use Rattle.std.proofs.Common.{inl, inr, refl, ap, ◌∙◌, ℕ}
use Rattle.registry_commands.specs.declared.messages.Failure.TheVariants.{Memory}
use Rattle.registry_commands.specs.Imports.{request_of_import}
use Rattle.registry_commands.proofs.ApplyLemmas.{keeps_same}
use Rattle.registry_commands.proofs.dry_import.try_document.Goals as goal

pub returns-in-Ok : goal.returns-in-Ok
returns-in-Ok g c = inl (
  c.in-Ok.request,
  λ h stands. c.in-Ok.ensures ∙ ap (λ (vid : ℕ). request_of_import c.args.import vid c.args.list.now) (c.founding.ensures h stands).vendor,
  c.try_request.ensures,
)

pub returns-in-Err : goal.returns-in-Err
returns-in-Err g c = inr (refl, (c.fail.ensures.status, (keeps_same _, refl), (Memory, refl, c.fail.ensures.told)))
