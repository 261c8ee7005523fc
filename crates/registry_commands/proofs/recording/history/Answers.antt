use Rattle.std.proofs.Common.{◌≡◌, ap, inl, inr, refl}
use Rattle.registry_commands.specs.declared.messages.Failure.TheVariants.{Poisoned}
use Rattle.registry_commands.proofs.ApplyLemmas.{keeps_same}
use Rattle.registry_commands.proofs.recording.history.Goals as goal

pub returns-in-Ok : goal.returns-in-Ok
returns-in-Ok g c = record {
  left = c.in-Ok.ensures.left;
  ends = inl (refl, (keeps_same _, refl));
  kept = λ _. c.in-Ok.ensures.kept;
  whole = λ _ h stands clean valid. (c.in-Ok.ensures.ok h stands clean valid, c.in-Ok.ensures.kept);
  part = λ failed. absurd cc;
  poisoned = λ is. let failed = c.in-Ok.ensures.when_poisoned is in absurd (cc failed.0);
  notes = λ _. c.in-Ok.ensures.notes;
}

pub returns-in-Err : goal.returns-in-Err
returns-in-Err g c = record {
  left = c.in-Err.ensures.left;
  ends = inr (c.fail.ensures.status, (c.in-Err.failure, c.in-Err.ensures.failure, c.fail.ensures.told));
  kept = λ success. absurd (cc (c.fail.ensures.status, success));
  whole = λ success. absurd (cc (c.fail.ensures.status, success));
  part = λ _. c.in-Err.ensures.err;
  poisoned = λ is.
      let failed = c.in-Err.ensures.when_poisoned is in
      let spent : c.in-Err.failure ≡ Poisoned = cc failed.0 in
      (c.fail.ensures.status, failed.1, ap g.W.Sink.contents failed.2, (c.in-Err.failure, spent, c.fail.ensures.told));
  notes = λ success. let failed = c.fail.ensures.status in absurd (cc (failed, success));
}
