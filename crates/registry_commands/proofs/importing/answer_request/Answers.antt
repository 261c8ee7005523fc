use Rattle.std.proofs.Common.{◌≡◌, inl, inr, refl, ap, ◌∙◌}
use Rattle.std.specs.Prelude.{Err, true}
use Rattle.registry_store.proofs.RunToLemmas.{once, once_left}
use Rattle.registry_store.specs.Promise.{is_poisoned}
use Rattle.registry_store.specs.RunTo.{MayHaveBeenActedOn}
use Rattle.registry_store.specs.declared.fault.Fault.TheVariants as faults
use Rattle.registry_commands.specs.Ends.{effect, ends_of}
use Rattle.registry_commands.specs.Messages.{failure_of}
use Rattle.registry_commands.proofs.FailureLemmas.{not_of_output, of_fault}
use Rattle.registry_commands.proofs.ApplyLemmas.{keeps_same, prefix_of_any}
use Rattle.registry_commands.proofs.ImportLemmas.{kind_of, replied}
use Rattle.registry_commands.proofs.importing.answer_request.Goals as goal

pub returns-in-Ok : goal.returns-in-Ok
returns-in-Ok g c = record {
  ends = replied (effect c.args.registry.now c.act.new.self (ends_of g.W.Sink g.E.Sink c.args.output.now c.put_status.new.output c.args.errors.now c.put_status.new.errors c.put_status.result))
      c.args.request.now c.in-Ok.reply c.in-Ok.ensures.goes_on c.in-Ok.ensures.notes
      (λ h may clean. once c.args.registry.now c.act.new.self h c.args.request.now c.in-Ok.reply c.in-Ok.ensures.answered may clean) c.put_status.ensures;
  no_deed = c.act.ensures.no_deed;
  endures = c.act.ensures.endures;
  poisoned = λ e. let failed = c.in-Ok.ensures.when_poisoned e in absurd (cc failed.0);
}

pub returns-in-Err : goal.returns-in-Err
returns-in-Err g c =
    let it = c.args.registry.now in
    let new = c.act.new.self in
    let r = c.args.request.now in
    let fault = c.in-Err.fault in
    let spent : is_poisoned it ≡ true → fault ≡ faults.Poisoned = λ e. let failed = c.in-Err.ensures.when_poisoned e in cc failed.0 in
    record {
      ends = inr (record {
        status_is = c.fail.ensures.status;
        cut = λ h may clean. record {
          gained = prefix_of_any (g.W.Sink.contents c.args.output.now) _;
          leaves = once_left it new h r c.act.ensures.crash may clean;
          ends = inl (c.in-Err.ensures.ends, keeps_same (g.W.Sink.contents c.args.output.now));
        };
        told = (
          c.failure_of.result,
          rw c.failure_of.ensures (
            of_fault it new (λ h. MayHaveBeenActedOn it h r) fault (λ e. c.in-Err.ensures.only_poisoned (ap Err e)) spent c.in-Err.ensures.keeps_fault c.in-Err.ensures.notes
                (λ e. c.in-Err.ensures.never_taken (ap Err e)) (λ h may clean. kind_of it new h r fault c.in-Err.ensures.kind may clean),
            not_of_output (g.W.Sink.failures c.args.output.now) (g.W.Sink.failures c.args.output.now) refl fault,
            λ _. refl,
          ),
          c.fail.ensures.told,
        );
      });
      no_deed = c.act.ensures.no_deed;
      endures = c.act.ensures.endures;
      poisoned = λ e.
          let failed = c.in-Err.ensures.when_poisoned e in
          (c.fail.ensures.status, failed.1, refl, (c.failure_of.result, c.failure_of.ensures ∙ ap failure_of (spent e), c.fail.ensures.told));
    }
