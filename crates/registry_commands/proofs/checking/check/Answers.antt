use Rattle.std.proofs.Common.{◌≡◌, ap, inl, inr, refl, subst}
use Rattle.registry_commands.specs.declared.checking.CheckStop.{CheckStop}
use Rattle.registry_commands.specs.declared.checking.CheckStop.TheVariants as stop
use Rattle.registry_commands.specs.declared.messages.Failure.TheVariants.{Memory, Poisoned}
use Rattle.registry_commands.specs.Checks.{TellsWhy}
use Rattle.registry_commands.specs.Ends.{effect, ends_of, output_of}
use Rattle.registry_commands.proofs.ApplyLemmas.{keeps_same}
use Rattle.registry_commands.proofs.CheckLemmas.{told_why}
use Rattle.registry_commands.proofs.checking.check.Goals as goal

pub returns-in-Ok-sound_text : goal.returns-in-Ok-sound_text
returns-in-Ok-sound_text g c = record {
  left = c.in-Ok.ensures.left;
  shown = inl (c.in-Ok.counts, c.in-Ok.ensures.notes, c.in-Ok.ensures.ok, rw (← c.in-Ok-sound_text.ensures, ← c.as_bytes.ensures.value) c.print.ensures);
  poisoned = λ is. let failed = c.in-Ok.ensures.when_poisoned is in absurd (cc failed.0);
}

pub returns-in-Err-sound_text : goal.returns-in-Err-sound_text
returns-in-Err-sound_text g c = record {
  left = c.in-Ok.ensures.left;
  shown = inr (stop.Failure Memory, c.in-Ok.ensures.notes, c.fail.ensures.status, (keeps_same _, refl), c.fail.ensures.told);
  poisoned = λ is. let failed = c.in-Ok.ensures.when_poisoned is in absurd (cc failed.0);
}

pub returns-in-Err : goal.returns-in-Err
returns-in-Err g c =
    let did = effect c.args.registry.now c.check_registry.new.registry (ends_of g.W.Sink g.E.Sink c.args.output.now c.args.output.now c.args.errors.now c.tell_unsound.new.errors c.tell_unsound.result) in
    record {
      left = c.in-Err.ensures.left;
      shown = inr (told_why did c.in-Err.stop c.in-Err.ensures.err c.tell_unsound.ensures.status (keeps_same _, refl) c.tell_unsound.ensures.told);
      poisoned = λ is.
          let failed = c.in-Err.ensures.when_poisoned is in
          let spent : c.in-Err.stop ≡ stop.Failure Poisoned = cc failed.0 in
          (c.tell_unsound.ensures.status, failed.1, refl, (Poisoned, refl, subst (λ (why : CheckStop). TellsWhy why (output_of g.E.Sink c.args.errors.now c.tell_unsound.new.errors)) spent c.tell_unsound.ensures.told));
    }
