use Rattle.std.proofs.Common.{◌≡◌, ap, Err}
use Rattle.std.proofs.lemmas.Result.{err_from_is_err_and}
use Rattle.registry_store.specs.declared.fault.Fault.{Fault}
use Rattle.registry_store.specs.declared.fault.Fault.TheVariants.{Poisoned}
use Rattle.registry_commands.specs.Messages.{failure_of}
use Rattle.registry_commands.specs.declared.following.ReplayStop.TheVariants as stop
use Rattle.registry_commands.proofs.ReplayLemmas.{noted_fault}
use Rattle.registry_commands.proofs.ShownLemmas.{of_query}
use Rattle.registry_commands.proofs.replaying.check_founding.Goals as goal

pub returns-in_err-first : goal.returns-in_err-first
returns-in_err-first g c =
    let p = err_from_is_err_and c.from_residual.result c.from_residual.ensures.1 in
    rw (p.1, p.2) (record {
      left = c.in_err-first.ensures.query.left;
      found = of_query c.in_err-first.field-0.0 c.in_err-first.ensures.query;
      notes = noted_fault c.args.registry.now c.first_founding.new.self c.in_err-first.field-0.0 c.in_err-first.ensures.query.notes;
      poisoned = λ spent.
          let all = c.in_err-first.ensures.query.when_poisoned spent in
          let is : c.in_err-first.field-0.0 ≡ Poisoned = cc all.0 in
          (all.1, ap (λ (fault : Fault). Err (stop.Failure (failure_of fault))) is);
    })

pub returns-in_err-has_same_line : goal.returns-in_err-has_same_line
returns-in_err-has_same_line g c =
    let p = err_from_is_err_and c.from_residual-in_err-has_same_line.result c.from_residual-in_err-has_same_line.ensures.1 in
    rw (p.1, p.2) (record {
      left = c.in_ok-first.ensures.query.left;
      found = c.in_ok-first.ensures.query.notes;
      notes = c.in_ok-first.ensures.query.notes;
      poisoned = λ spent. let failed = c.in_ok-first.ensures.query.when_poisoned spent in absurd (cc failed.0);
    })
