use Rattle.registry_commands.specs.Ends.{ends_of}
use Rattle.registry_commands.specs.Failures.{IsOfInput}
use Rattle.registry_commands.specs.Lines.{requests_in}
use Rattle.registry_tables.specs.Rows.{newest}
use Rattle.registry_reopening.specs.Opening.{StillHolds}
use Rattle.registry_reopening.proofs.AppliedLemmas.{if_reopened}
use Rattle.registry_reopening.proofs.applying.apply_and_crash.Goals as goal

pub returns : goal.returns
returns g c =
    let run = c.apply_lines-status in
    let bytes = run.ensures.0 in
    let OfInput = IsOfInput (g.R.Source.failures c.args.source.now) (g.R.Source.failures run.new.source) bytes in
    let ends = ends_of g.W.Sink g.E.Sink c.args.output.now run.new.output c.args.errors.now run.new.errors run.result in (
      bytes,
      run.ensures.1,
      record { last = run.new.registry; applied = run.ensures.2; long = run.ensures.3; tells = run.ensures.4 },
      if_reopened OfInput c.args.first run.new.registry (requests_in bytes) c.args.answered ends ends.errors run.ensures.2
          (StillHolds g.D.Disk newest) c.crash_and_open.result c.crash_and_open.ensures.represents c.crash_and_open.ensures.clean c.crash_and_open.ensures.is_new c.crash_and_open.ensures.holds,
    )
