use Rattle.registry_arguments.specs.Commands.{texts}
use Rattle.registry_commands.specs.Ends.{ends_of, sunk}
use Rattle.registry_program.proofs.StatusLemmas.{is_status}
use Rattle.registry_program.proofs.PerformsLemmas.{performs_whole}
use Rattle.registry_program.proofs.performing.perform.Goals as goal

pub returns-clause-status : goal.returns-clause-status
returns-clause-status g c = is_status c.act_by-status.result

pub returns-clause-performs : goal.returns-clause-performs
returns-clause-performs g c =
    let act = c.act_by-status in (
      sunk g.E.Sink act.new.errors,
      act.ensures,
      performs_whole g.H.Host g.H.File.Disk g.H.Input.Source g.H.Connections g.H.Reader.Source g.H.Writer.Sink g.R.Source g.H.Logs g.H.Log.Log (texts c.args.command) c.args.host.now act.new.host c.args.input.now act.new.input
          (ends_of g.W.Sink g.E.Sink c.args.output.now act.new.output c.args.errors.now act.new.errors act.result) act.ensures,
      c.explain_if.ensures,
    )
