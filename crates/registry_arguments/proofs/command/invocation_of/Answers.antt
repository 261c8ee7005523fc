use Rattle.std.proofs.Common.{◌≡◌, ◌∙◌, List, Option, None, ap, is_some, map, string_bytes, sym, true≢false}
use Rattle.std.specs.Prelude.{IsSome}
use Rattle.clap.specs.Words.{Text}
use Rattle.registry_arguments.specs.Commands.{asked_by, command_of}
use Rattle.registry_arguments.specs.declared.command.Command.{Command}
use Rattle.registry_arguments.proofs.AcceptedLemmas.{accepted}
use Rattle.registry_arguments.proofs.CommandValueLemmas.{asks_for_a_command}
use Rattle.registry_arguments.proofs.command.invocation_of.Goals as goal

-- `clap` accepted the arguments, so their command has its values
pub unreachable-requires : goal.unreachable-requires
unreachable-requires c =
    let words : List Text = map string_bytes c.args.arguments.now in
    let there : IsSome (command_of words) = asks_for_a_command words ((accepted words).0 c.in_ok-matches.ensures.taken) in
    let gone : None ≡ command_of words = c.in-None.ensures ∙ ap asked_by c.in_ok-matches.ensures.ok in
    true≢false (sym there ∙ ap (λ (o : Option (Command Text)). is_some o) (sym gone))

pub returns-clause-faultless : goal.returns-clause-faultless
returns-clause-faultless c = accepted _

pub returns-in_err-matches-clause-faultless : goal.returns-in_err-matches-clause-faultless
returns-in_err-matches-clause-faultless c = accepted _
