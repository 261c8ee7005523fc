use Rattle.std.proofs.Common.{◌∙◌, sym}
use Rattle.registry_arguments.proofs.UsageLemmas.{refused}
use Rattle.registry_arguments.proofs.command.usage_of.Goals as goal

pub returns-in_default : goal.returns-in_default
returns-in_default c = sym (refused _ c.args.error (λ is. c.in_default.not-OutOfMemory (c.kind.ensures ∙ is)))
