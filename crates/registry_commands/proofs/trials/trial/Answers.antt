use Rattle.std.proofs.Common.{inl, inr, refl}
use Rattle.registry_commands.specs.Ends.{effect, ends_of}
use Rattle.registry_commands.specs.Failures.{IsOfInput, PrintsFailure}
use Rattle.registry_commands.specs.Lines.{requests_in}
use Rattle.registry_commands.proofs.ApplyLemmas.{keeps_same, may_give}
use Rattle.registry_commands.specs.Trial.{IsOfStart}
use Rattle.registry_commands.proofs.FailureLemmas.{tells_more}
use Rattle.registry_commands.proofs.EndLemmas.{of_start, trial_fails, tried}
use Rattle.registry_commands.proofs.trials.trial.Goals as goal

pub returns-in-Err : goal.returns-in-Err
returns-in-Err g c =
    let bytes = may_give (g.R.Source.remaining c.args.source.now) in
    let before = g.R.Source.failures c.args.source.now in
    let told : PrintsFailure (IsOfStart (IsOfInput before before bytes.0)) _ = (c.in-Err.failure, of_start before bytes.0 c.in-Err.failure c.in-Err.ensures.err, c.fail.ensures.told) in (
      bytes.0,
      bytes.1,
      trial_fails (IsOfInput before before bytes.0) (requests_in bytes.0) _ _ c.fail.result c.fail.ensures.status told,
      λ long. (c.fail.ensures.status, (keeps_same _, refl), told),
      inl refl,
    )

pub returns : goal.returns
returns g c =
    let done = c.apply_lines-status.ensures in
    let it = c.in-Ok.ensures.ok in
    let run = c.apply_lines-status in
    let did = effect c.in-Ok.registry run.new.registry (ends_of g.W.Sink g.E.Sink c.args.output.now run.new.output c.args.errors.now run.new.errors run.result) in (
      done.0,
      done.1,
      tried _ did it.0 it.1 it.2 (requests_in done.0) done.2,
      λ long. let unread = done.3 long in (unread.0, unread.1.silent, tells_more _ (IsOfStart _) _ (λ failure is. inr is) unread.1.told),
      done.4,
    )
