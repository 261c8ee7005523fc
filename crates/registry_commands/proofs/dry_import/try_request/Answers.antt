use Rattle.std.proofs.Common.{◌≡◌, ◌∙◌, inl, inr, refl, ap}
use Rattle.registry_store.specs.declared.fault.Fault.TheVariants.{Poisoned}
use Rattle.registry_commands.specs.Messages.{failure_of}
use Rattle.registry_commands.proofs.ApplyLemmas.{keeps_same}
use Rattle.registry_commands.proofs.ShownLemmas.{of_query}
use Rattle.registry_commands.proofs.dry_import.try_request.Goals as goal

pub returns-in-Ok : goal.returns-in-Ok
returns-in-Ok g c =
    let query = c.in-Ok.ensures.query in
    record {
      left = query.left;
      shown = inl (c.in-Ok.reply, query.notes, query.answered, c.foretell.ensures);
      poisoned = λ e. let failed = query.when_poisoned e in absurd (cc failed.0);
    }

pub returns-in-Err : goal.returns-in-Err
returns-in-Err g c =
    let query = c.in-Err.ensures.query in
    record {
      left = query.left;
      shown = inr (c.fail.ensures.status, (keeps_same _, refl), (c.failure_of.result, rw c.failure_of.ensures (of_query c.in-Err.fault query), c.fail.ensures.told));
      poisoned = λ e.
          let failed = query.when_poisoned e in
          let spent : c.in-Err.fault ≡ Poisoned = cc failed.0 in
          (c.fail.ensures.status, failed.1, refl, (c.failure_of.result, c.failure_of.ensures ∙ ap failure_of spent, c.fail.ensures.told));
    }
