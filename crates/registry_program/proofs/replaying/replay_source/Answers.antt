use Rattle.std.proofs.Common.{refl, Ok, Err, Some, None}
use Rattle.registry_commands.specs.RecordLines.{ahead}
use Rattle.registry_program.proofs.ReplayWholeLemmas.{begun_fresh, blank_fresh}
use Rattle.registry_program.proofs.replaying.replay_source.Goals as goal

pub returns-in-Ok-Some : goal.returns-in-Ok-Some
returns-in-Ok-Some g c out = record {
  middle = c.take_founding.new.source;
  begun = c.take_founding.new.unread;
  first = Ok (Some c.in-Ok-Some.founding);
  begins = begun_fresh _ _ c.new-unread.result _ (g.R.Source.failures c.args.source.now) (g.R.Source.failures c.take_founding.new.source) (Ok (Some c.in-Ok-Some.founding))
      c.new-unread.ensures.empty c.new-unread.ensures.first (rw c.in-Ok-Some.field-0-is at c.in-Ok-Some.ensures.begins);
  kept = λ _. c.in-Ok-Some.ensures.kept (λ e. absurd (cc e));
  waits = λ is. absurd (cc is);
  goes_on = c.replay_in.ensures out;
}

pub returns-in-Ok-None : goal.returns-in-Ok-None
returns-in-Ok-None g c out = record {
  middle = c.take_founding.new.source;
  begun = c.take_founding.new.unread;
  first = Ok None;
  begins = begun_fresh _ _ c.new-unread.result _ (g.R.Source.failures c.args.source.now) (g.R.Source.failures c.take_founding.new.source) (Ok None)
      c.new-unread.ensures.empty c.new-unread.ensures.first (rw c.in-Ok-None.field-0-is at c.in-Ok-None.ensures.begins);
  kept = λ _. c.in-Ok-None.ensures.kept (λ e. absurd (cc e));
  waits = λ is. absurd (cc is);
  goes_on = c.replay_over.ensures out;
}

pub returns : goal.returns
returns g c out = record {
  middle = c.take_founding.new.source;
  begun = c.take_founding.new.unread;
  first = Err c.in-Err.stop;
  begins = begun_fresh _ (ahead (g.R.Source.remaining c.take_founding.new.source) c.take_founding.new.unread) c.new-unread.result _
      (g.R.Source.failures c.args.source.now) (g.R.Source.failures c.take_founding.new.source) (Err c.in-Err.stop) c.new-unread.ensures.empty c.new-unread.ensures.first c.in-Err.ensures.begins;
  kept = c.in-Err.ensures.kept;
  waits = λ is. blank_fresh _ _ c.new-unread.result c.take_founding.new.unread c.new-unread.ensures.empty c.new-unread.ensures.first (c.in-Err.ensures.waits is);
  goes_on = (refl, refl, refl, c.tell_stop.ensures);
}
