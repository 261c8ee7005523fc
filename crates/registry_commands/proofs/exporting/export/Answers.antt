use Rattle.std.proofs.Common.{◌≡◌, ◌∙◌, inl, inr, refl, ap}
use Rattle.registry_store.specs.declared.fault.Fault.TheVariants.{Poisoned}
use Rattle.registry_commands.specs.Messages.{failure_of}
use Rattle.registry_commands.proofs.ApplyLemmas.{keeps_same}
use Rattle.registry_commands.proofs.ShownLemmas.{of_query}
use Rattle.registry_commands.proofs.exporting.export.Goals as goal

pub returns-in-Ok : goal.returns-in-Ok
returns-in-Ok g c = record {
  left = c.in-Ok.ensures.left;
  shown = inl (c.in-Ok.document, c.in-Ok.ensures.notes, c.in-Ok.ensures.answered, c.put_document.ensures.is_text, c.put_document.ensures.printed);
  poisoned = λ e. let failed = c.in-Ok.ensures.when_poisoned e in absurd (cc failed.0);
}

pub returns-in-Err : goal.returns-in-Err
returns-in-Err g c = record {
  left = c.in-Err.ensures.left;
  shown = inr (c.fail.ensures.status, (keeps_same _, refl), (c.failure_of.result, rw c.failure_of.ensures (of_query c.in-Err.fault c.in-Err.ensures), c.fail.ensures.told));
  poisoned = λ e.
      let failed = c.in-Err.ensures.when_poisoned e in
      let spent : c.in-Err.fault ≡ Poisoned = cc failed.0 in
      (c.fail.ensures.status, failed.1, refl, (c.failure_of.result, c.failure_of.ensures ∙ ap failure_of spent, c.fail.ensures.told));
}
